-- Requests of a stream with their answers.
use Rattle.std.specs.Prelude.{◌≡◌, ◌++◌, List, [], ◌∷◌, Bool, true, false, ⊤, Option, None, Some}
use Rattle.std.specs.Prelude.{if◌then◌else◌}
use Rattle.std.specs.List.{flat_map}
use Rattle.streetmap_http.specs.Head.{IsHead}
use Rattle.streetmap_http.specs.Framing.{HeadValue, sized, Frames, Breaks, IsRequest}
use Rattle.streetmap_http.specs.declared.fault.FramingFault.{FramingFault}
use Rattle.streetmap_batch.specs.Text.{Text}
use Rattle.streetmap_batch.specs.BatchValue.{BatchValue}
use Rattle.streetmap_ledger.specs.Batches.{after_all}
use Rattle.streetmap_ledger.specs.State.{State}
use Rattle.streetmap_ledger.specs.Kept.{batch_count}
use Rattle.streetmap_routes.specs.Operations.{OperationValue, batch}
use Rattle.streetmap_web.specs.declared.verdict.Verdict.{Verdict}
use Rattle.streetmap_web.specs.declared.verdict.Verdict.TheVariants.{Holds}
use Rattle.streetmap_web.specs.Site.{SiteValue}
use Rattle.streetmap_web.specs.Response.{ResponseValue, RequestValue, request_of, broken_request}
use Rattle.streetmap_web.specs.Response.{AnswerSent, Wanted, sent_as, closes_with}
use Rattle.streetmap_web.specs.Response.{response_text, verdict_on}
use Rattle.streetmap_http.specs.Preconditions.{PreconditionsValue}
use Rattle.streetmap_web.specs.Conditions.{Condition, RequestOutcome, as_requested, no_memory}
use Rattle.streetmap_web.specs.Conditions.{device_failed, of_keeper}
use Rattle.streetmap_web.specs.Conditions.{CanBe, answer_by, after, of_state, shut, unknown}

-- one request of the stream: its bytes, what it says, and its outcome
pub record HttpExchange : Type 0 where
  pub bytes : Text
  pub request : RequestValue
  pub outcome : RequestOutcome

-- the bytes are this request: a head with its body, or bytes that break a rule of framing; if
-- memory ran out for the body, they are only the head
pub data HasRequest (site : SiteValue) (e : HttpExchange) : Type 0 where
  whole : (h : HeadValue) (body : Text) → IsRequest e.bytes h body
      → e.request ≡ request_of site h body → HasRequest site e
  broken : (bare : Bool) (fault : FramingFault) → Breaks e.bytes bare fault
      → e.request ≡ broken_request bare fault → HasRequest site e
  no_room : (h : HeadValue) → IsHead e.bytes → Frames e.bytes (sized h)
      → e.request ≡ request_of site h [] → e.outcome ≡ no_memory → HasRequest site e

-- the answer of a keeper in this condition
abbrev pub response : SiteValue → Condition → HttpExchange → ResponseValue
response site x e = answer_by site x e.request.wanted e.outcome

-- whether the connection closes after it
abbrev pub closes : SiteValue → Condition → HttpExchange → Bool
closes site x e = closes_with e.request.closes (response site x e)

-- the bytes of the answer
abbrev pub answer_bytes : SiteValue → Condition → HttpExchange → Text
answer_bytes site x e = response_text (closes site x e) e.request.bare (response site x e)

-- both as they are sent
abbrev pub sent_for : SiteValue → Condition → HttpExchange → AnswerSent
sent_for site x e = sent_as e.request (response site x e)

-- the keeper's condition afterwards
abbrev pub condition_after : Condition → HttpExchange → Condition
condition_after x e = after x e.request.wanted e.outcome

-- the request is one of the stream, and has a possible outcome
pub record IsExchange (site : SiteValue) (x : Condition) (e : HttpExchange) : Type 0 where
  pub has_request : HasRequest site e
  pub can : CanBe x e.request.wanted e.outcome

-- exchanges in a row, each of which leaves the connection open
abbrev pub GoOn : SiteValue → Condition → List HttpExchange → Type 0
GoOn site x [] = ⊤
GoOn site x (e ∷ es) = IsExchange site x e × (closes site x e ≡ false)
    × GoOn site (condition_after x e) es

-- the bytes of the requests
abbrev pub all_requests : List HttpExchange → Text
all_requests es = flat_map (λ e. e.bytes) es

-- the bytes of the answers
abbrev pub all_answers : SiteValue → Condition → List HttpExchange → Text
all_answers site x [] = []
all_answers site x (e ∷ es) = answer_bytes site x e ++ all_answers site (condition_after x e) es

-- the keeper's condition after them
abbrev pub condition_after_all : Condition → List HttpExchange → Condition
condition_after_all x [] = x
condition_after_all x (e ∷ es) = condition_after_all (condition_after x e) es

-- a batch before others
abbrev pub with_batch : OperationValue → List BatchValue → List BatchValue
with_batch (batch b) others = b ∷ others
with_batch _ others = others

-- whether a verdict lets a batch act
abbrev pub lets_act : Verdict → Bool
lets_act Holds = true
lets_act _ = false

-- whether the conditions let a batch act on the state
abbrev pub may_act : State → OperationValue → Option PreconditionsValue → Bool
may_act s operation None = true
may_act s operation (Some p) = lets_act (verdict_on (batch_count s) p operation)

-- a batch before others, if its conditions let it act
abbrev pub with_acting : Condition → Wanted → List BatchValue → List BatchValue
with_acting (of_state s) wanted others =
    if may_act s wanted.operation wanted.conditions then with_batch wanted.operation others
    else others
with_acting (shut why) wanted others = with_batch wanted.operation others
with_acting unknown wanted others = with_batch wanted.operation others

-- the same, if it was answered as requested
abbrev pub with_answered : Condition → Wanted → RequestOutcome → List BatchValue → List BatchValue
with_answered x wanted as_requested others = with_acting x wanted others
with_answered x wanted no_memory others = others
with_answered x wanted device_failed others = others
with_answered x wanted (of_keeper shown) others = others

-- the batches that the keeper answered without a fault, in order, but for those that their
-- conditions did not let act
abbrev pub batches_of : Condition → List HttpExchange → List BatchValue
batches_of x [] = []
batches_of x (e ∷ es) = with_answered x e.request.wanted e.outcome
    (batches_of (condition_after x e) es)

-- the keeper's condition after batches
abbrev pub after_batches : Condition → List BatchValue → Condition
after_batches (of_state s) bs = of_state (after_all s bs)
after_batches (shut why) bs = shut why
after_batches unknown bs = unknown
