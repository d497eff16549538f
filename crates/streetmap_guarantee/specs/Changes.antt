-- What is answered to requests for changes.
use Rattle.std.specs.Prelude.{◌≡◌, ℕ, List}
use Rattle.streetmap_http.specs.Framing.{HeadValue}
use Rattle.streetmap_http.specs.declared.answer_head.MediaType.TheVariants.{Journal}
use Rattle.streetmap_batch.specs.Text.{Text}
use Rattle.streetmap_ledger.specs.State.{State}
use Rattle.streetmap_ledger.specs.WellFormed.{IsState}
use Rattle.streetmap_ledger.specs.Kept.{KeyedBatch}
use Rattle.streetmap_tags.specs.Changes.{GoOn}
use Rattle.streetmap_bodies.specs.Changes.{changes_text}
use Rattle.streetmap_routes.specs.Operations.{changes}
use Rattle.streetmap_web.specs.Site.{SiteValue}
use Rattle.streetmap_web.specs.Response.{ResponseValue, found, request_of, response_in}

-- The lines of the batches with the next serials after one, in order. None is left out: those after
-- the last of them are the rest.
pub record AreChanges (s : State) (after limit : ℕ) (response : ResponseValue) : Type 0 where
  pub batches : List KeyedBatch
  pub go_on : GoOn s after limit batches
  pub lines : response ≡ found Journal (changes_text batches)

-- A request for changes is answered with them in each state, whatever its limit is.
abbrev pub ChangesAreAnswered : Type 0
ChangesAreAnswered =
    (site : SiteValue) (h : HeadValue) (body : Text) (s : State) (after limit : ℕ) → IsState s
    → (request_of site h body).wanted.operation ≡ changes after limit
    → AreChanges s after limit
    (response_in site.root s (request_of site h body).wanted.operation)
