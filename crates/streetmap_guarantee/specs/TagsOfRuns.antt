-- What tags name if a server is stopped and started again.
use Rattle.std.specs.Prelude.{◌≡◌, ◌⊎◌, ℕ, List, [], ◌∷◌, ◌++◌, Some}
use Rattle.streetmap_ledger.specs.State.{State}
use Rattle.streetmap_ledger.specs.Batches.{after_all}
use Rattle.streetmap_web.specs.Site.{SiteValue}
use Rattle.streetmap_guarantee.specs.Histories.{Event, acknowledged}
use Rattle.streetmap_guarantee.specs.Tagging.{Happens, state_after}
use Rattle.streetmap_guarantee.specs.Restarts.{Runs, LeadTo}
use Rattle.streetmap_guarantee.specs.Restarts.Runs.{none, more}

-- in a history of a server from a state on, an answer had this tag, and this was the state after
-- its request
pub record Names (site : SiteValue) (s : State) (history : List Event) (n : ℕ) (named : State)
    : Type 0 where
  pub before : List Event
  pub event : Event
  pub happens : Happens site s history before event
  pub tag : event.response.tag ≡ Some n
  pub is : named ≡ state_after s (before ++ event ∷ [])

-- in one of these runs
abbrev pub NamesInRuns : {Image : Type 0} {holds : Image → State → Type 0} {site : SiteValue}
    {first last : Image} (runs : Runs holds site first last) (s t : State) → LeadTo runs s t → ℕ
    → State → Type 0
NamesInRuns none s t led n named = ⊥
NamesInRuns {site = site} (more run runs) s t (held, extra, few, led) n named =
    Names site s (run.guarantee s held).history n named
    ⊎ NamesInRuns runs (after_all s (acknowledged (run.guarantee s held).history ++ extra)) t led n
    named

-- One tag, one state, across crashes and openings: if answers of two runs, or of one, had one tag,
-- the states after their requests are the same.
abbrev pub OneTagInAllRuns : Type 1
OneTagInAllRuns =
    (Image : Type 0) (holds : Image → State → Type 0) (site : SiteValue) (first last : Image)
    (runs : Runs holds site first last) (s t : State) (led : LeadTo runs s t) (n : ℕ)
    (named other : State) → NamesInRuns runs s t led n named → NamesInRuns runs s t led n other
    → named ≡ other
