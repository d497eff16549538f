-- Histories of a server that handles one request at a time.
use Rattle.std.specs.Prelude.{◌≡◌, ◌==◌, Bool, true, List, [], ◌∷◌, if◌then◌else◌}
use Rattle.streetmap_http.specs.Head.{IsHead}
use Rattle.streetmap_http.specs.Framing.{HeadValue, sized, Frames, Breaks, IsRequest}
use Rattle.streetmap_http.specs.declared.fault.FramingFault.{FramingFault}
use Rattle.streetmap_batch.specs.Text.{Text}
use Rattle.streetmap_batch.specs.BatchValue.{BatchValue}
use Rattle.streetmap_ledger.specs.State.{State}
use Rattle.streetmap_ledger.specs.declared.reply.Fault.TheVariants.{Memory, Device}
use Rattle.streetmap_routes.specs.Operations.{OperationValue, batch}
use Rattle.streetmap_bodies.specs.declared.request_fault.RequestFault.TheVariants.{Keeper}
use Rattle.streetmap_connections.specs.History.{Exchange}
use Rattle.streetmap_web.specs.Site.{SiteValue}
use Rattle.streetmap_web.specs.Response.{ResponseValue, RequestValue, request_of, broken_request}
use Rattle.streetmap_web.specs.Response.{Wanted, response_to, response_shut, fault_response}
use Rattle.streetmap_web.specs.Response.{state_to, needs_state, closes_with, response_text}
use Rattle.streetmap_guarantee.specs.Server.{Server, serving, failed}

-- a request gets the response, and leads from one server to the other
pub data Step (site : SiteValue) (wanted : Wanted) (response : ResponseValue)
    (old new : Server)
    : Type 0 where
  -- the response of the state, which a batch changes
  answered : (s : State) → old ≡ serving s → response ≡ response_to site.root s wanted
      → new ≡ serving (state_to s wanted) → Step site wanted response old new
  -- out of memory: 503, and nothing has changed
  out_of_memory : response ≡ fault_response (Keeper Memory) → new ≡ old
      → Step site wanted response old new
  -- the store failed: 500
  store_failed : (s : State) → old ≡ serving s → needs_state wanted.operation ≡ true
      → response ≡ fault_response (Keeper Device) → new ≡ failed s (state_to s wanted)
      → Step site wanted response old new
  -- after that: 500 to each request that needs the state
  still_failed : (before after : State) → old ≡ failed before after
      → response ≡ response_shut site.root wanted.operation → new ≡ old
      → Step site wanted response old new

-- a request with its response: their bytes, and what these say
pub record Event : Type 0 where
  pub exchange : Exchange
  pub request : RequestValue
  pub response : ResponseValue

-- the bytes received say this: a head with its body, or bytes that break a rule of HTTP; or only a
-- head, if memory ran out for its body
pub data HasRequest (site : SiteValue) (e : Event) : Type 0 where
  whole : (h : HeadValue) (body : Text) → IsRequest e.exchange.request h body
      → e.request ≡ request_of site h body → HasRequest site e
  broken : (bare : Bool) (fault : FramingFault) → Breaks e.exchange.request bare fault
      → e.request ≡ broken_request bare fault → HasRequest site e
  no_room : (h : HeadValue) → IsHead e.exchange.request → Frames e.exchange.request (sized h)
      → e.request ≡ request_of site h [] → e.response ≡ fault_response (Keeper Memory)
      → HasRequest site e

-- both texts say so, and the connection closes if the request says so or something failed
pub record IsHttp (site : SiteValue) (e : Event) : Type 0 where
  pub has_request : HasRequest site e
  pub closes : e.exchange.closes ≡ closes_with e.request.closes e.response
  pub answers : e.exchange.text ≡ response_text e.exchange.closes e.request.bare e.response

-- each request is answered after the one before it
abbrev pub IsSequential : SiteValue → Server → List Event → Server → Type 0
IsSequential site old [] new = new ≡ old
IsSequential site old (e ∷ es) new =
    IsHttp site e × (next : Server) × Step site e.request.wanted e.response old next
    × IsSequential site next es new

-- a batch before others, if it was acknowledged
abbrev pub with_acknowledged : OperationValue → ResponseValue → List BatchValue → List BatchValue
with_acknowledged (batch b) response others = if response.status == 200 then b ∷ others else others
with_acknowledged _ response others = others

-- the batches of a history that were acknowledged: answered with status 200
abbrev pub acknowledged : List Event → List BatchValue
acknowledged [] = []
acknowledged (e ∷ es) = with_acknowledged e.request.wanted.operation e.response (acknowledged es)
