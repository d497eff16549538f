-- What a fold of features holds.
use Rattle.std.specs.Prelude.{◌≡◌, ◌≤◌, Bool, true, List, All, length, take, nat_lt}
use Rattle.streetmap_geojson.specs.FeatureValue.{FeatureValue}
use Rattle.streetmap_query.specs.QueryValue.{QueryValue}
use Rattle.streetmap_query.specs.Views.{query_value}
use Rattle.streetmap_ledger.specs.Pages.{selects, selected, candidates, comes_after, rest_of}
use Rattle.streetmap_ledger.specs.Pages.{saturated}
use Rattle.streetmap_ledger.specs.declared.fold.PageFold.{PageFold}

-- a fold of these features: their page, as far as it is known
pub record IsFoldOf (q : QueryValue) (fold : PageFold) (fs : List FeatureValue) : Type 0 where
  pub is_for : query_value fold.query.now ≡ q
  pub shown : fold.features.items ≡ take q.limit (rest_of q fs)
  pub matched : fold.matched ≡ saturated (length (selected q fs))
  pub more : fold.more ≡ nat_lt q.limit (length (rest_of q fs))
  pub examined : fold.examined ≡ saturated (length fs)

-- the page of the candidates among these features, of which no selected one is left out
pub record HoldsCandidates (q : QueryValue) (fold : PageFold) (fs : List FeatureValue) : Type 0
  where
    pub holds : IsFoldOf q fold (candidates q fs)
    pub whole : selected q (candidates q fs) ≡ selected q fs

-- the page shows as many features as the query's limit
abbrev pub IsFull : PageFold → Type 0
IsFull fold = fold.query.now.limit ≤ length fold.features.items

-- features that are selected, and either all come after the query's id (`following`) or none does
abbrev pub AreHidden : QueryValue → Bool → List FeatureValue → Type 0
AreHidden q following fs = All (λ f. (selects q f ≡ true) × (comes_after q.after f ≡ following)) fs
