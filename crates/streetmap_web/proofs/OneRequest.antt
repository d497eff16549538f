-- The bytes of one request, answered.
use Rattle.std.proofs.Common.{◌≡◌, [], Bool, true, refl, sym, subst, append-nil}
use Rattle.streetmap_http.specs.Framing.{HeadValue, Breaks, IsRequest}
use Rattle.streetmap_http.specs.Arrivals.{SplitsAs}
use Rattle.streetmap_http.specs.FramingView.{framing_value}
use Rattle.streetmap_http.specs.declared.framing.Framed.{Framed}
use Rattle.streetmap_http.specs.Streams.{Request, request, stops, refused}
use Rattle.streetmap_http.specs.declared.fault.FramingFault.{FramingFault}
use Rattle.streetmap_http.proofs.Fronts.{front_unique}
use Rattle.streetmap_batch.specs.Text.{Text}
use Rattle.streetmap_web.specs.Site.{SiteValue}
use Rattle.streetmap_web.specs.Response.{AnswerSent, request_of, broken_request, sent_so}
use Rattle.streetmap_ledger.specs.Model.{Model}
use Rattle.streetmap_web.specs.Conditions.{Condition, IsInCondition}
use Rattle.streetmap_web.specs.Responds.{Answers, AnswersOperation, AnswersBatch, RefusesBy}
use Rattle.streetmap_web.specs.AnsweredRequests.{AnswersOne}
use Rattle.streetmap_web.specs.Exchanges.{whole, broken}
use Rattle.streetmap_web.specs.Transitions.{AnswersRequest}
use Rattle.streetmap_web.proofs.CallsInARow.{no_calls}
use Rattle.streetmap_web.proofs.Transitions.{refused_comes}

module _ {K : Type 0} (model : Model K) (site : SiteValue) (x : Condition) where
  -- a whole request
  whole_answered : (h : HeadValue) (bytes body : Text) (sent : AnswerSent) (old new : K) → IsRequest bytes h body
      → AnswersOperation model site x (request_of site h body) sent old new
      → AnswersRequest model site x bytes sent old new
  whole_answered h bytes body sent old new is (outcome, one) = record {
    exchange = record { bytes = bytes; request = request_of site h body; outcome = outcome };
    bytes_are = refl;
    has_request = whole h body is refl;
    comes_out = one;
  }

  -- one that breaks a rule of framing
  broken_answered : (bytes text : Text) (bare : Bool) (fault : FramingFault) (k : K) → Breaks bytes bare fault → RefusesBy text bare fault → IsInCondition model k x
      → AnswersRequest model site x bytes (sent_so text true) k k
  broken_answered bytes text bare fault k breaks refuses h =
      let (outcome, one) = refused_comes model site x text bare fault k refuses h in
      record {
        exchange = record { bytes = bytes; request = broken_request bare fault; outcome = outcome };
        bytes_are = refl;
        has_request = broken bare fault breaks refl;
        comes_out = one;
      }

-- ---- bytes are one request

-- which breaks no rule
not_broken : (bytes body : Text) (h : HeadValue) (bare : Bool) (fault : FramingFault) → IsRequest bytes h body → Breaks bytes bare fault → ⊥
not_broken bytes body h bare fault is breaks =
    let front : request (record { bytes = bytes; head = h; body = body }) ≡ stops (refused bytes bare fault) =
    front_unique bytes _ _ (is, ([], sym (append-nil bytes))) (breaks, ([], sym (append-nil bytes))) in
    cc

same_request : (r q : Request) → request r ≡ request q → r ≡ q
same_request r q e = cc

same_front : (bytes : Text) (h k : HeadValue) (a b : Text) → IsRequest bytes h a → IsRequest bytes k b
    → ◌≡◌ {A = Request} (record { bytes = bytes; head = h; body = a }) (record { bytes = bytes; head = k; body = b })
same_front bytes h k a b one other =
    let one_is = request (record { bytes = bytes; head = h; body = a }) in
    let other_is = request (record { bytes = bytes; head = k; body = b }) in
    same_request _ _ (front_unique bytes one_is other_is (one, ([], sym (append-nil bytes))) (other, ([], sym (append-nil bytes))))

-- and says one thing
said_of : (bytes : Text) (h k : HeadValue) (a b : Text) (P : HeadValue → Text → Type 0) → IsRequest bytes h a → IsRequest bytes k b → P k b → P h a
said_of bytes h k a b P one other says =
    let same = same_front bytes h k a b one other in
    subst (λ (r : Request). P r.head r.body) (sym same) says

-- ---- what holds of one request

module _ {K : Type 0} (model : Model K) (site : SiteValue) where
  pub whole_answers : (h : HeadValue) (bytes body : Text) (sent : AnswerSent) (old new : K) → IsRequest bytes h body
      → Answers model site (request_of site h body) sent old new → AnswersOne model site old bytes sent new
  whole_answers h bytes body sent old new is says = record {
    calls = says.calls;
    answered = λ clean x in_condition. whole_answered model site x h bytes body sent old new is (says.answered clean x in_condition);
    batch_answered = λ k a one. said_of bytes k h a body (λ k a. AnswersBatch model (request_of site k a) sent old new) one is says.batch_answered;
  }

  pub broken_answers : (bytes text : Text) (bare : Bool) (fault : FramingFault) (k : K) → Breaks bytes bare fault → RefusesBy text bare fault
      → AnswersOne model site k bytes (sent_so text true) k
  broken_answers bytes text bare fault k breaks refuses = record {
    calls = no_calls model k;
    answered = λ clean x in_condition. broken_answered model site x bytes text bare fault k breaks refuses in_condition;
    batch_answered = λ h body is. absurd (not_broken bytes body h bare fault is breaks);
  }

-- what splitting gives if it is known what the bytes say
pub split_as : (f g : Framed) (body bytes : Text) → f ≡ g → SplitsAs (framing_value f) body bytes → SplitsAs (framing_value g) body bytes
split_as f g body bytes is says = subst (λ k. SplitsAs (framing_value k) body bytes) is says
