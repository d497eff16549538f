-- What a service without options answers: it gives no tags, offers no more than the eight paths,
-- and refuses no batch.
use Rattle.std.specs.Prelude.{◌≡◌, false, None}
use Rattle.streetmap_http.specs.Framing.{HeadValue}
use Rattle.streetmap_batch.specs.Text.{Text}
use Rattle.streetmap_ledger.specs.State.{State}
use Rattle.streetmap_routes.specs.Operations.{operation_of}
use Rattle.streetmap_web.specs.Guards.{free}
use Rattle.streetmap_web.specs.Site.{SiteValue}
use Rattle.streetmap_web.specs.Response.{plainly, request_of, response_in, response_to, state_in}
use Rattle.streetmap_web.specs.Response.{state_to}

-- a service without options
abbrev pub plain_site : Text → SiteValue
plain_site root = record {
  root = root;
  tags = false;
  offers = record { changes = false; status = false };
  guard = free;
}

-- A request to it wants what its method, target and body say, whatever its conditions and its
-- token are. It is answered by the state alone, without a tag and a serial.
pub record IsPlain (root : Text) (h : HeadValue) (body : Text) (s : State) : Type 0 where
  pub wants :
      (request_of (plain_site root) h body).wanted
      ≡ plainly (operation_of h.method h.target body)
  pub answered :
      response_to root s (plainly (operation_of h.method h.target body))
      ≡ response_in root s (operation_of h.method h.target body)
  pub untagged : (response_in root s (operation_of h.method h.target body)).tag ≡ None
  pub unnumbered : (response_in root s (operation_of h.method h.target body)).serial ≡ None
  pub leads :
      state_to s (plainly (operation_of h.method h.target body))
      ≡ state_in s (operation_of h.method h.target body)

-- so it is with each request in each state
abbrev pub AllArePlain : Type 0
AllArePlain = (root : Text) (h : HeadValue) (body : Text) (s : State) → IsPlain root h body s
