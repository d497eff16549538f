-- What `Streetmap-Serial` means, of a service that offers its status.
use Rattle.std.specs.Prelude.{◌≡◌, ◌≢◌, Bool, true, false, Some}
use Rattle.streetmap_http.specs.Framing.{HeadValue}
use Rattle.streetmap_batch.specs.Text.{Text}
use Rattle.streetmap_ledger.specs.State.{State}
use Rattle.streetmap_ledger.specs.Kept.{batch_count}
use Rattle.streetmap_routes.specs.Operations.{path_part, status_path}
use Rattle.streetmap_web.specs.Site.{SiteValue}
use Rattle.streetmap_web.specs.Response.{Wanted, needs_state, request_of, response_to, state_to}

-- a service that offers its status or not, otherwise the same
abbrev pub with_status : Bool → SiteValue → SiteValue
with_status status site = record site { offers = record site.offers { status = status } }

-- what a request to a service with the option wants, and to the service without it
abbrev pub wanted_with : SiteValue → HeadValue → Text → Wanted
wanted_with site h body = (request_of (with_status true site) h body).wanted

abbrev pub wanted_without : SiteValue → HeadValue → Text → Wanted
wanted_without site h body = (request_of (with_status false site) h body).wanted

-- the same, without the serial
abbrev pub unnumbered : Wanted → Wanted
unnumbered wanted = record wanted { numbered = false }

-- Of a service with the option, the answer to a request that needs the state is the answer without
-- the serial, but for the serial, which is that of the state after the request.
abbrev pub SerialIsOfTheStateAfter : Type 0
SerialIsOfTheStateAfter =
    (site : SiteValue) (h : HeadValue) (body : Text) (s : State)
    → needs_state (wanted_with site h body).operation ≡ true
    → response_to site.root s (wanted_with site h body)
    ≡ record (response_to site.root s (unnumbered (wanted_with site h body)))
    { serial = Some (batch_count (state_to s (wanted_with site h body))) }

-- A request for another path than that of the status wants what it wants without the option, but
-- for the serial.
abbrev pub OtherPathsAreTheSame : Type 0
OtherPathsAreTheSame = (site : SiteValue) (h : HeadValue) (body : Text)
    → path_part h.target ≢ status_path
    → unnumbered (wanted_with site h body) ≡ wanted_without site h body
