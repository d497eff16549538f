-- A keeper as a service: each request is answered according to the keeper's condition.
use Rattle.streetmap_batch.specs.Text.{Text}
use Rattle.streetmap_http.specs.Framing.{HeadValue, IsRequest}
use Rattle.streetmap_ledger.specs.Model.{Model}
use Rattle.streetmap_web.specs.Conditions.{Condition, IsInCondition, ByCalls}
use Rattle.streetmap_web.specs.Site.{SiteValue}
use Rattle.streetmap_web.specs.Response.{AnswerSent, request_of}
use Rattle.streetmap_web.specs.Transitions.{AnswersRequest}
use Rattle.streetmap_web.specs.Responds.{AnswersBatch}

-- The bytes of one request were answered by the first keeper, this was sent for it, and the second
-- is the keeper after it. The answer is that of the keeper's condition, and the condition changes
-- with it: after a 503 for lack of memory the state is as it was, and after a 500 the keeper is
-- shut. A batch is answered as the keeper answered it, whatever the reply is; 503 is sent if the
-- keeper answered so, or was never called.
pub record AnswersOne {K : Type 0} (model : Model K) (site : SiteValue) (old : K) (bytes : Text)
    (sent : AnswerSent) (new : K) : Type 0 where
  pub calls : ByCalls model old new
  pub answered : model.is_clean new → (x : Condition) → IsInCondition model old x
      → AnswersRequest model site x bytes sent old new
  pub batch_answered : (h : HeadValue) (body : Text) → IsRequest bytes h body
      → AnswersBatch model (request_of site h body) sent old new
