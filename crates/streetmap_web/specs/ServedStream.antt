-- A stream that was served: requests with their answers, and the turn that ended it.
use Rattle.std.specs.Prelude.{◌≡◌, ◌≢◌, ℕ, ◌<◌, ◌+◌, ◌++◌, List, [], ◌∷◌, true, false}
use Rattle.std.specs.Prelude.{length, take, Option, nat_lt, if◌then◌else◌}
use Rattle.std.specs.Io.KnownBytes.{Consumes, Appends, Keeps, IsAtEnd}
use Rattle.streetmap_http.specs.Head.{IsBlank}
use Rattle.streetmap_http.specs.Streams.{IsUnfinished}
use Rattle.streetmap_batch.specs.Text.{Text}
use Rattle.streetmap_ledger.specs.Model.{Model}
use Rattle.streetmap_web.specs.Site.{SiteValue}
use Rattle.streetmap_web.specs.Conditions.{Condition, IsInCondition}
use Rattle.streetmap_web.specs.Exchanges.{HttpExchange, IsExchange, GoOn, closes, answer_bytes}
use Rattle.streetmap_web.specs.Exchanges.{condition_after, condition_after_all, after_batches}
use Rattle.streetmap_web.specs.Exchanges.{all_requests, all_answers, batches_of}
use Rattle.streetmap_web.specs.Transitions.{ComesAll}
use Rattle.streetmap_web.specs.Turns.{begun_in, end_of}
use Rattle.streetmap_web.specs.declared.turns.End.{End}
use Rattle.streetmap_web.specs.declared.turns.Turn.{Turn}
use Rattle.streetmap_web.specs.declared.turns.Turn.TheVariants.{Open, Closed, Ended, Truncated}
use Rattle.streetmap_web.specs.declared.turns.Turn.TheVariants.{ReadFailed, WriteFailed, FlushFailed}

-- what a reader has left and what a writer holds, before and after
pub record Around : Type 0 where
  pub input_before : Option Text
  pub input_after : Option Text
  pub output_before : Option Text
  pub output_after : Option Text

-- these four together
abbrev pub around : (input_before input_after output_before output_after : Option Text) → Around
around input_before input_after output_before output_after = record {
  input_before = input_before;
  input_after = input_after;
  output_before = output_before;
  output_after = output_after;
}

-- a request was read and acted on: its bytes are off the reader, and the keeper is in the condition
-- after it
pub record Acted {K : Type 0} (model : Model K) (site : SiteValue) (x : Condition) (e : HttpExchange)
    (a : Around) (new : K) : Type 0 where
  pub is : IsExchange site x e
  pub read : Consumes a.input_before a.input_after e.bytes
  pub in_condition : IsInCondition model new (condition_after x e)

-- no request was acted on, and nothing was written
pub record AnswersNothing {K : Type 0} (model : Model K) (x : Condition) (a : Around) (new : K)
    : Type 0 where
  pub written : Keeps a.output_before a.output_after
  pub in_condition : IsInCondition model new x

-- what a turn did
abbrev pub TurnSays : {K : Type 0} → Model K → Turn → SiteValue → Condition → Around → K → Type 0
TurnSays model Open site x a new = (e : HttpExchange) × Acted model site x e a new
    × Appends a.output_before a.output_after (answer_bytes site x e) × (closes site x e ≡ false)
TurnSays model Closed site x a new = (e : HttpExchange) × Acted model site x e a new
    × Appends a.output_before a.output_after (answer_bytes site x e) × (closes site x e ≡ true)
TurnSays model (WriteFailed begun) site x a new =
    (e : HttpExchange) × Acted model site x e a new × (n : ℕ)
    × (n < length (answer_bytes site x e)) × (begun ≡ nat_lt 0 n)
    × Appends a.output_before a.output_after (take n (answer_bytes site x e))
TurnSays model FlushFailed site x a new = (e : HttpExchange) × Acted model site x e a new
    × Appends a.output_before a.output_after (answer_bytes site x e)
TurnSays model Ended site x a new = AnswersNothing model x a new × (bytes : Text) × IsBlank bytes
    × Consumes a.input_before a.input_after bytes × IsAtEnd a.input_after
TurnSays model Truncated site x a new =
    AnswersNothing model x a new × (bytes : Text) × IsUnfinished bytes
    × Consumes a.input_before a.input_after bytes × IsAtEnd a.input_after
TurnSays model ReadFailed site x a new = AnswersNothing model x a new

-- the request that was answered in a turn, if one was
abbrev pub last_of :
    {K : Type 0} (model : Model K) (turn : Turn) (site : SiteValue) (x : Condition) (a : Around)
    (new : K) → TurnSays model turn site x a new → List HttpExchange
last_of model Open site x a new says = says.0 ∷ []
last_of model Closed site x a new says = says.0 ∷ []
last_of model (WriteFailed begun) site x a new says = says.0 ∷ []
last_of model FlushFailed site x a new says = says.0 ∷ []
last_of model Ended site x a new says = []
last_of model Truncated site x a new says = []
last_of model ReadFailed site x a new says = []

-- what a turn did, and that its request led from the first keeper to the second
abbrev pub TurnComes : {K : Type 0} → Model K → Turn → SiteValue → Condition → Around
    → (old new : K) → Type 0
TurnComes model turn site x a old new =
    (says : TurnSays model turn site x a new)
    × ComesAll model site x old (last_of model turn site x a new says) new

-- What was served: exchanges that leave the connection open, and then the turn that ends it; all of
-- them together led from the first keeper to the second. So for each request it is said what a
-- crash may leave after it.
pub record ServesExchanges {K : Type 0} (model : Model K) (site : SiteValue) (end : End) (count : ℕ)
    (x : Condition) (a : Around) (old new : K) : Type 0 where
  pub exchanges : List HttpExchange
  pub turn : Turn
  pub middle : Option Text
  pub written : Option Text
  pub go_on : GoOn site x exchanges
  pub read : Consumes a.input_before middle (all_requests exchanges)
  pub answered : Appends a.output_before written (all_answers site x exchanges)
  pub batches : condition_after_all x exchanges ≡ after_batches x (batches_of x exchanges)
  pub ends :
      TurnSays model turn site (condition_after_all x exchanges)
      (record a { input_before = middle; output_before = written }) new
  pub end_is : end ≡ end_of turn
  pub closed : turn ≢ Open
  pub counted : count ≡ (if begun_in turn then length exchanges + 1 else length exchanges)
  pub comes : ComesAll model site x old (exchanges ++ last_of model turn site _ _ new ends) new
