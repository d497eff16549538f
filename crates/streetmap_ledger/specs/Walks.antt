-- A walk over the pages of a collection, from each to the one after its last id.
use Rattle.std.specs.Prelude.{◌≡◌, ◌≤◌, List, [], ◌∷◌, Option, None, Some, length, All}
use Rattle.std.specs.List.{flat_map}
use Rattle.std.specs.FinMap.{get, values}
use Rattle.streetmap_geojson.specs.FeatureValue.{FeatureValue}
use Rattle.streetmap_query.specs.QueryValue.{QueryValue}
use Rattle.streetmap_batch.specs.Text.{Text}
use Rattle.streetmap_ledger.specs.State.{State, Collection}
use Rattle.streetmap_ledger.specs.WellFormed.{IsState}
use Rattle.streetmap_ledger.specs.Pages.{PageValue, selected, page_over, saturated}

-- the query from after this id on
abbrev pub from_after : QueryValue → Option Text → QueryValue
from_after q after = record {
  bbox = q.bbox;
  datetime = q.datetime;
  limit = q.limit;
  after
      = after;
}

-- its page of features in order of ids
abbrev pub page_after : QueryValue → List FeatureValue → Option Text → PageValue
page_after q fs after = page_over (from_after q after) fs

-- the pages from after an id on: each is followed from its `next`, and the last has none
pub data IsWalk (q : QueryValue) (fs : List FeatureValue) : Option Text → List PageValue
    → Type 0 where
  ends : (after : Option Text) → (page_after q fs after).next ≡ None
      → IsWalk q fs after (page_after q fs after ∷ [])
  goes_on : (after : Option Text) (id : Text) (pages : List PageValue)
      → (page_after q fs after).next ≡ Some id → IsWalk q fs (Some id) pages
      → IsWalk q fs after (page_after q fs after ∷ pages)

-- the features that pages show, one page after the other
abbrev pub shown : List PageValue → List FeatureValue
shown pages = flat_map (λ (p : PageValue). p.features) pages

-- a walk shows the selected features, each once and in order of ids, and each of its pages gives
-- their number
pub record ShowsAll (q : QueryValue) (fs : List FeatureValue) (pages : List PageValue) : Type 0
  where
    pub whole : shown pages ≡ selected q fs
    pub matched : All (λ (p : PageValue). p.matched ≡ saturated (length (selected q fs))) pages

-- in a well-formed state, each walk over a collection shows all that is selected, and one exists
abbrev pub WalksShowAll : Type 0
WalksShowAll =
    (s : State) (name : Text) (c : Collection) (q : QueryValue) →
    IsState s → get s.collections name ≡ Some c → 1 ≤ q.limit →
    ((pages : List PageValue) → IsWalk q (values c.features) None pages
    → ShowsAll q (values c.features) pages)
    × ((pages : List PageValue) × IsWalk q (values c.features) None pages)
