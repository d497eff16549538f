-- The request that was answered last on a stream, as bytes, and how the stream ended: for each turn alike.
use Rattle.std.proofs.Common.{◌≡◌, ◌≢◌, inl, inr, ℕ, ◌<◌, ◌-◌, List, [], ◌∷◌, ◌++◌, length, take, drop, Bool, true, false, Option, None, Some, refl, sym, subst, ap, ◌∙◌, append-nil, arith}
use Rattle.std.specs.Prelude.{All}
use Rattle.std.specs.Io.KnownBytes.{Consumes, Appends, Keeps}
use Rattle.std.proofs.KnownBytes.{Consumes-nil}
use Rattle.std.proofs.lemmas.List.{take-append-drop, length-drop}
use Rattle.std.proofs.lemmas.List.Elements.{All-nil, All-cons}
use Rattle.streetmap_batch.specs.Text.{Text}
use Rattle.streetmap_connections.specs.History.{Exchange, LeavesOpen, requests_of, texts_of}
use Rattle.streetmap_web.specs.Site.{SiteValue}
use Rattle.streetmap_web.specs.Conditions.{Condition}
use Rattle.streetmap_web.specs.StreamEnds.{EndsSo}
use Rattle.streetmap_web.specs.Turns.{end_of}
use Rattle.streetmap_web.specs.Exchanges as web
use Rattle.streetmap_ledger.specs.Model.{Model}
use Rattle.streetmap_web.specs.Exchanges.{HttpExchange, IsExchange}
use Rattle.streetmap_web.specs.ServedStream.{Around, TurnSays, last_of}
use Rattle.streetmap_web.specs.ServedClients.{AnsweredInTurn, IsAnswerTo}
use Rattle.streetmap_web.specs.declared.turns.End.{End}
use Rattle.streetmap_web.specs.declared.turns.End.TheVariants as variants
use Rattle.streetmap_web.specs.declared.turns.Turn.{Turn}
use Rattle.streetmap_web.specs.declared.turns.Turn.TheVariants.{Open, Closed, Ended, Truncated, ReadFailed, WriteFailed, FlushFailed}

-- a request of the web with its answer, as bytes
abbrev pub exchange_at : SiteValue → Condition → HttpExchange → Exchange
exchange_at site x w = record { request = w.bytes; text = web.answer_bytes site x w; closes = web.closes site x w }

abbrev pub exchanges_at : SiteValue → Condition → List HttpExchange → List Exchange
exchanges_at site x [] = []
exchanges_at site x (w ∷ ws) = exchange_at site x w ∷ exchanges_at site (web.condition_after x w) ws

pub is_answer : (site : SiteValue) (x : Condition) (w : HttpExchange) → IsExchange site x w → IsAnswerTo site x (exchange_at site x w) w
is_answer site x w is = record { is = is; request = refl; text = refl; closes = refl }

kept_appends : (a b : Option Text) → Keeps a b → Appends a b []
kept_appends None b h = tt
kept_appends (Some xs) None h = absurd h
kept_appends (Some xs) (Some ys) h = h ∙ sym (append-nil xs)

more_left : (n : ℕ) (text : Text) → n < length text → drop n text ≢ []
more_left n text less none =
    let left : length (drop n text) ≡ length text - n = length-drop n text in
    let zero : length (drop n text) ≡ 0 = ap length none in
    omega (arith, less, left, zero)

abbrev pub closes_last : SiteValue → Condition → List HttpExchange → Bool
closes_last site y [] = false
closes_last site y (w ∷ ws) = web.closes site y w

-- what the last turn did, with the request that it answered, if it did
pub record IsLast (site : SiteValue) (y : Condition) (a : Around) (end : End) (last : List HttpExchange) : Type 0 where
  pub answered : AnsweredInTurn site y (exchanges_at site y last) last
  pub left : Option Text
  pub read : Consumes a.input_before left (requests_of (exchanges_at site y last))
  pub part : Text
  pub unsent : Text
  pub written : Appends a.output_before a.output_after part
  pub parts : texts_of (exchanges_at site y last) ≡ part ++ unsent
  pub stays : closes_last site y last ≡ false → All LeavesOpen (exchanges_at site y last)
  pub closed :
      (before : List Exchange) → All LeavesOpen before → closes_last site y last ≡ true
      → (front : List Exchange) × (e : Exchange) × (before ++ exchanges_at site y last ≡ front ++ e ∷ []) × All LeavesOpen front
  pub ends : EndsSo end (closes_last site y last) unsent left a.input_after

module _ (site : SiteValue) (y : Condition) (a : Around) where
  one : (end : End) (w : HttpExchange) → IsExchange site y w → Consumes a.input_before a.input_after w.bytes → (part unsent : Text)
      → Appends a.output_before a.output_after part
      → web.answer_bytes site y w ≡ part ++ unsent → EndsSo end (web.closes site y w) unsent a.input_after a.input_after → IsLast site y a end (w ∷ [])
  one end w is read part unsent written parts ends = record {
    answered = (is_answer site y w is, tt);
    left = a.input_after;
    read = subst (Consumes a.input_before a.input_after) (sym (append-nil w.bytes)) read;
    part = part;
    unsent = unsent;
    written = written;
    parts = append-nil (web.answer_bytes site y w) ∙ parts;
    stays = λ stays. All-cons LeavesOpen (exchange_at site y w) [] stays (All-nil LeavesOpen);
    closed = λ before all closes. (before, exchange_at site y w, refl, all);
    ends = ends;
  }

  none : (end : End) → Keeps a.output_before a.output_after → EndsSo end false [] a.input_before a.input_after → IsLast site y a end []
  none end kept ends = record {
    answered = tt;
    left = a.input_before;
    read = Consumes-nil a.input_before;
    part = [];
    unsent = [];
    written = kept_appends a.output_before a.output_after kept;
    parts = refl;
    stays = λ stays. All-nil LeavesOpen;
    closed = λ before all closes. absurd (let bad : false ≡ true = closes in cc);
    ends = ends;
  }

  pub is_last : {K : Type 0} (model : Model K) (new : K) (turn : Turn) (says : TurnSays model turn site y a new) → turn ≢ Open
      → IsLast site y a (end_of turn) (last_of model turn site y a new says)
  is_last model new Open says shut = absurd (shut refl)
  is_last model new Closed says shut =
      one variants.Ended says.0 says.1.is says.1.read (web.answer_bytes site y says.0) [] says.2 (sym (append-nil (web.answer_bytes site y says.0)))
      (refl, inl (says.3, refl))
  is_last model new (WriteFailed begun) says shut =
      let text = web.answer_bytes site y says.0 in
      one variants.WriteFailed says.0 says.1.is says.1.read (take says.2 text) (drop says.2 text) says.5 (sym (take-append-drop says.2 text))
      (more_left says.2 text says.3, refl)
  is_last model new FlushFailed says shut =
      one variants.FlushFailed says.0 says.1.is says.1.read (web.answer_bytes site y says.0) [] says.2 (sym (append-nil (web.answer_bytes site y says.0)))
      (refl, refl)
  is_last model new Ended says shut = none variants.Ended says.0.written (refl, inr (says.1, says.2, says.3, says.4))
  is_last model new Truncated says shut = none variants.Truncated says.0.written (refl, (says.1, says.2, says.3, says.4))
  is_last model new ReadFailed says shut = none variants.ReadFailed says.written refl
