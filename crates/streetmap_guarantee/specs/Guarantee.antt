-- What serving guarantees.
use Rattle.std.specs.Prelude.{◌≡◌, List, ◌∷◌, ◌++◌, map, All}
use Rattle.std.specs.Prelude.{ℕ, Bool, Option, Some, None, if◌then◌else◌}
use Rattle.streetmap_http.specs.Preconditions.{PreconditionsValue}
use Rattle.streetmap_ledger.specs.Kept.{batch_count}
use Rattle.serde_json.specs.Written.{compact_text}
use Rattle.streetmap_http.specs.declared.answer_head.MediaType.TheVariants.{GeoJson}
use Rattle.streetmap_query.specs.QueryValue.{QueryValue}
use Rattle.streetmap_batch.specs.Text.{Text}
use Rattle.streetmap_ledger.specs.State.{State}
use Rattle.streetmap_ledger.specs.Batches.{after_all}
use Rattle.streetmap_ledger.specs.Pages.{PageValue, page_in}
use Rattle.streetmap_routes.specs.Operations.{page}
use Rattle.streetmap_bodies.specs.Bodies.{page_data}
use Rattle.streetmap_connections.specs.History.{History, Exchange, FitsStream}
use Rattle.streetmap_connections.specs.Interleaving.{IsInterleaving}
use Rattle.streetmap_connections.specs.RefusedRequests.{AreRefused}
use Rattle.streetmap_web.specs.Site.{SiteValue}
use Rattle.streetmap_web.specs.Refusals.{IsRefusal}
use Rattle.streetmap_web.specs.Response.{ResponseValue, Wanted, found}
use Rattle.streetmap_guarantee.specs.Server.{Server, serving, state_of, HasKept}
use Rattle.streetmap_guarantee.specs.Histories.{Event, IsSequential, acknowledged}

-- the requests of a connection with their answers, in order
abbrev pub exchanges_of : History → List Exchange
exchanges_of h = h.exchanges

-- What was received is these requests, in order, then what was refused and what is waiting; what
-- was sent and what is waiting to be sent is their answers, and then the refusal: one at most.
abbrev pub IsInOrder : History → Type 0
IsInOrder h = ∥ FitsStream h ∥₁

-- what was refused is the fixed answer 503: out of memory
abbrev pub RefusesForMemory : History → Type 0
RefusesForMemory h = AreRefused IsRefusal h.refusals

-- the tag of an answer from the state, if there are conditions: the service gives tags
abbrev pub tag_of : Option PreconditionsValue → State → Option ℕ
tag_of None s = None
tag_of (Some p) s = Some (batch_count s)

-- the serial of an answer from the state, if the request wants it shown
abbrev pub serial_of : (numbered : Bool) → State → Option ℕ
serial_of numbered s = if numbered then Some (batch_count s) else None

-- the response is the page of the state, with its tag if there are conditions, and with its serial
-- if that is wanted
abbrev pub ShowsPage : Text → State → Text → QueryValue → Wanted → ResponseValue → Type 0
ShowsPage root s name q wanted response = (p : PageValue) × (page_in s name q ≡ Some p)
    × (response ≡ record (found GeoJson (compact_text (page_data root name q p)))
    { tag = tag_of wanted.conditions s; serial = serial_of wanted.numbered s })

-- Connections were served, from a state on. A crash leaves one of the images that `leaves` admits,
-- and `holds` says which state an image holds.
pub record Guarantee {Image : Type 0} (holds : Image → State → Type 0) (leaves : Image → Type 0)
    (site : SiteValue) (s : State) (connections : List History) : Type 0 where
  -- one history: the connections' own requests and answers, interleaved
  pub history : List Event
  pub in_order : All IsInOrder connections
  pub refused : All RefusesForMemory connections
  pub interleaved : IsInterleaving (map exchanges_of connections) (map (λ e. e.exchange) history)
  -- a server that handles one request at a time, from the state on, could have given it
  pub server : Server
  pub sequential : IsSequential site (serving s) history server
  -- each page is the page of the state that the batches acknowledged before it made
  pub pages :
      (before later : List Event) (e : Event) (name : Text) (q : QueryValue)
      → history ≡ before ++ e ∷ later → e.request.wanted.operation ≡ page name q
      → e.response.status ≡ 200
      → ShowsPage site.root (after_all s (acknowledged before)) name q e.request.wanted e.response
  -- the server has acted on the acknowledged batches, and on no other
  pub acts : state_of server ≡ after_all s (acknowledged history)
  -- whatever a crash leaves holds the state that this server has kept: that of all acknowledged
  -- batches, or, if the store failed at a request, that or the one after it
  pub survives : (image : Image) → leaves image → (t : State) × holds image t × HasKept server t
