-- Pages that are made from outlines.
use Rattle.std.specs.Prelude.{◌≡◌, true, ◌++◌, List, Bool, IsTrue}
use Rattle.std.specs.Prelude.{Option, None, Some, map, string_bytes}
use Rattle.std.specs.FinMap.{get, values}
use Rattle.streetmap_geojson.specs.FeatureValue.{FeatureValue}
use Rattle.streetmap_query.specs.QueryValue.{QueryValue}
use Rattle.streetmap_batch.specs.Text.{Text}
use Rattle.streetmap_ledger.specs.State.{State, Collection}
use Rattle.streetmap_ledger.specs.Pages.{page_over, is_candidate}
use Rattle.streetmap_ledger.specs.PageView.{page_value}
use Rattle.streetmap_ledger.specs.Folds.{IsFoldOf, HoldsCandidates}
use Rattle.streetmap_ledger.specs.declared.fold.PageFold.{PageFold}
use Rattle.streetmap_ledger.specs.declared.outline.FeatureOutline.{FeatureOutline}
use Rattle.streetmap_ledger.specs.declared.page.Page.{Page}
use Rattle.streetmap_outlines.specs.Outlines.{Pairs}
use Rattle.streetmap_outlines.specs.Outlines.{IsOutlineOf, AreListedChunksOf}
use Rattle.streetmap_outlines.specs.Outlines.{IsBounded}
use Rattle.streetmap_outlines.specs.declared.chunk.Chunk.{Chunk}
use Rattle.streetmap_outlines.specs.declared.chunks.Chunks.{Chunks}

-- a page examines the feature with this outline
abbrev pub IsExamined : QueryValue → FeatureOutline → Type 0
IsExamined q o = (f : FeatureValue) → IsOutlineOf o f → is_candidate q f ≡ true

-- the features have the ids of the outlines, one by one
abbrev pub HaveIds : List FeatureOutline → List FeatureValue → Type 0
HaveIds os fs = map (λ (o : FeatureOutline). string_bytes o.id) os
    ≡ map (λ (f : FeatureValue). f.id) fs

-- if all were taken, the features with these outlines were met after those met before
abbrev pub TakesRun : Text → List FeatureOutline → PageFold → PageFold → State → Bool → Type 0
TakesRun name os old new s taken =
    IsTrue taken → (c : Collection) (q : QueryValue) (met fs : List FeatureValue)
    → get s.collections name ≡ Some c → Pairs c.features os fs → IsFoldOf q old met
    → IsFoldOf q new (met ++ fs)

-- if all were taken, the features with a chunk's outlines were met after those met before
abbrev pub TakesOutlined : Text → QueryValue → Chunk → PageFold → PageFold → State → Bool → Type 0
TakesOutlined name q chunk old new s taken =
    IsTrue taken → (c : Collection) (met fs : List FeatureValue) → get s.collections name ≡ Some c
    → IsBounded chunk → Pairs c.features chunk.outlines.items fs → HoldsCandidates q old met
    → HoldsCandidates q new (met ++ fs)

-- if the outlines are those of the collection's features, this is the page, if any
abbrev pub IsOutlinedPage : Text → QueryValue → Chunks → State → Option Page → Type 0
IsOutlinedPage name q outlines s None = Unit {0}
IsOutlinedPage name q outlines s (Some page) =
    (c : Collection) → get s.collections name ≡ Some c → AreListedChunksOf outlines c.features
    → page_value page ≡ page_over q (values c.features)
