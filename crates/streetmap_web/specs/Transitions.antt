-- How one keeper became another by requests, and what lies between the two.
use Rattle.std.specs.Prelude.{◌≡◌, List, [], ◌∷◌}
use Rattle.streetmap_batch.specs.Text.{Text}
use Rattle.streetmap_ledger.specs.Model.{Model}
use Rattle.streetmap_web.specs.Conditions.{Condition}
use Rattle.streetmap_web.specs.Site.{SiteValue}
use Rattle.streetmap_web.specs.Response.{AnswerSent}
use Rattle.streetmap_web.specs.Responds.{ComesOut}
use Rattle.streetmap_web.specs.Exchanges.{HttpExchange, HasRequest, sent_for, condition_after}

-- these bytes are a request, which was answered between two keepers, and this was sent for it
pub record AnswersRequest {K : Type 0} (model : Model K) (site : SiteValue) (x : Condition)
    (bytes : Text) (sent : AnswerSent) (old new : K) : Type 0 where
  pub exchange : HttpExchange
  pub bytes_are : exchange.bytes ≡ bytes
  pub has_request : HasRequest site exchange
  pub comes_out : ComesOut model site x exchange.request exchange.outcome sent old new

-- requests in a row, each answered over the keeper that the one before left
abbrev pub ComesAll :
    {K : Type 0} (model : Model K) (site : SiteValue) (x : Condition) (old : K)
    (es : List HttpExchange) (new : K) → Type 0
ComesAll model site x old [] new = new ≡ old
ComesAll {K} model site x old (e ∷ es) new =
    (mid : K) × ComesOut model site x e.request e.outcome (sent_for site x e) old mid
    × ComesAll model site (condition_after x e) mid es new
