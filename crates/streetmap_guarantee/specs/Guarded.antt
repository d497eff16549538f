-- What a service that refuses batches answers, and that its state never changes.
use Rattle.std.specs.Prelude.{◌≡◌, true, false, Some}
use Rattle.streetmap_http.specs.Framing.{HeadValue}
use Rattle.streetmap_batch.specs.Text.{Text}
use Rattle.streetmap_ledger.specs.State.{State}
use Rattle.streetmap_routes.specs.Operations.{operation_with}
use Rattle.streetmap_bodies.specs.declared.request_fault.RequestFault.{RequestFault}
use Rattle.streetmap_bodies.specs.declared.request_fault.RequestFault.TheVariants.{Fenced, Follower}
use Rattle.streetmap_web.specs.Guards.{GuardValue, free, fenced, follower, is_of_batch}
use Rattle.streetmap_web.specs.Site.{SiteValue}
use Rattle.streetmap_web.specs.Response.{fault_response, is_batch, request_of, response_to}
use Rattle.streetmap_web.specs.Response.{state_to}

-- a service with this guard, otherwise the same
abbrev pub with_guard : GuardValue → SiteValue → SiteValue
with_guard guard site = record site { guard = guard }

-- A request to a service changes no state, and wants no batch. If it brings a batch, or one that
-- cannot be read, it is answered with this fault, of status 403. Otherwise it wants what it wants
-- of a service without a guard.
pub record IsRefused (fault : RequestFault) (site : SiteValue) (h : HeadValue) (body : Text)
    : Type 0 where
  pub unchanged : (s : State) → state_to s (request_of site h body).wanted ≡ s
  pub no_batch : is_batch (request_of site h body).wanted.operation ≡ false
  pub refused :
      is_of_batch (operation_with site.offers h.method h.target body) ≡ true → (s : State)
      → response_to site.root s (request_of site h body).wanted ≡ fault_response fault
  pub status : (fault_response fault).status ≡ 403
  pub reads :
      is_of_batch (operation_with site.offers h.method h.target body) ≡ false
      → request_of site h body ≡ request_of (with_guard free site) h body

-- so it is with each request to a fenced service
abbrev pub FencedIsUnchanged : Type 0
FencedIsUnchanged = (site : SiteValue) (h : HeadValue) (body : Text)
    → IsRefused Fenced (with_guard fenced site) h body

-- and with each request to a follower without the token of its script
abbrev pub FollowerIsUnchanged : Type 0
FollowerIsUnchanged = (its : Text) (site : SiteValue) (h : HeadValue) (body : Text)
    → (h.token ≡ Some its → ⊥) → IsRefused Follower (with_guard (follower its) site) h body

-- With the token a request wants what it wants of a service without a guard.
abbrev pub ScriptIsServed : Type 0
ScriptIsServed = (its : Text) (site : SiteValue) (h : HeadValue) (body : Text)
    → h.token ≡ Some its
    → request_of (with_guard (follower its) site) h body ≡ request_of (with_guard free site) h body
