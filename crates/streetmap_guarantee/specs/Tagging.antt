-- What tags and conditions guarantee of a history.
use Rattle.std.specs.Prelude.{◌≡◌, ◌⊎◌, ℕ, List, [], ◌∷◌, ◌++◌, ◌<◌, ◌^◌, true, Some}
use Rattle.streetmap_http.specs.Tags.{number_tag}
use Rattle.streetmap_http.specs.Preconditions.{PreconditionsValue, tags}
use Rattle.streetmap_batch.specs.BatchValue.{BatchValue}
use Rattle.streetmap_ledger.specs.State.{State}
use Rattle.streetmap_ledger.specs.Batches.{after_all}
use Rattle.streetmap_ledger.specs.Kept.{batch_count}
use Rattle.streetmap_routes.specs.Operations.{batch}
use Rattle.streetmap_tags.specs.Keys.{is_used}
use Rattle.streetmap_web.specs.Site.{SiteValue}
use Rattle.streetmap_web.specs.Response.{response_in, not_modified, tagged, with_serial}
use Rattle.streetmap_web.specs.Response.{shows_serial}
use Rattle.streetmap_guarantee.specs.Server.{Server, serving}
use Rattle.streetmap_guarantee.specs.Histories.{Event, IsSequential, acknowledged}

-- the state that the first events of a history made
abbrev pub state_after : State → List Event → State
state_after s events = after_all s (acknowledged events)

-- a history of a server from a state on, and an event of it
pub record Happens (site : SiteValue) (s : State) (history before : List Event) (e : Event) : Type 0
  where
    pub server : Server
    pub sequential : IsSequential site (serving s) history server
    pub later : List Event
    pub is : history ≡ before ++ e ∷ later

-- One tag, one state: if two answers of a history have one tag, the states after their requests are
-- the same.
abbrev pub OneTagOneState : Type 0
OneTagOneState =
    (site : SiteValue) (s : State) (history b c : List Event) (e f : Event) (n : ℕ)
    → Happens site s history b e → Happens site s history c f → e.response.tag ≡ Some n
    → f.response.tag ≡ Some n → state_after s (b ++ e ∷ []) ≡ state_after s (c ++ f ∷ [])

-- A 304 comes only if the answer would have been the one that had its tag: the request without its
-- conditions would have been answered with status 200, and each read of the history that wanted the
-- same and was answered with this tag was answered so. Both show the serial if the request wants
-- it.
abbrev pub NotModifiedIsTheSame : Type 0
NotModifiedIsTheSame =
    (site : SiteValue) (s : State) (history c : List Event) (f : Event) → Happens site s history c f
    → f.response.status ≡ 304
    → (n : ℕ) × (f.response ≡ with_serial (shows_serial f.request.wanted) n (not_modified n))
    × ((response_in site.root (state_after s c) f.request.wanted.operation).status ≡ 200)
    × ((b : List Event) (e : Event) → Happens site s history b e
    → e.request.wanted.operation ≡ f.request.wanted.operation
    → e.response.status ≡ 200 → e.response.tag ≡ Some n
    → e.response ≡ with_serial (shows_serial e.request.wanted) n
    (tagged n (response_in site.root (state_after s c) f.request.wanted.operation)))

-- No lost change: a batch under `If-Match` with one tag that was answered with status 200 acted on
-- the state that has this tag, or is a repeat. (The numbers of batches that a keeper's state has
-- are below 2^63.)
abbrev pub NoLostChange : Type 0
NoLostChange =
    (site : SiteValue) (s : State) (history c : List Event) (f : Event) (b : BatchValue)
    (p : PreconditionsValue) (n : ℕ) → Happens site s history c f
    → f.request.wanted.operation ≡ batch b → f.request.wanted.conditions ≡ Some p
    → p.if_match ≡ tags (number_tag n ∷ []) → f.response.status ≡ 200
    → n < 2 ^ 64 → batch_count (state_after s c) < 2 ^ 64
    → (n ≡ batch_count (state_after s c)) ⊎ (is_used (state_after s c) b.key ≡ true)
