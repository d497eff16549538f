-- What outlines show of the features that a query selects.
use Rattle.std.specs.Prelude.{◌≡◌, ℕ, true, ◌++◌, List, All, length, Bool, ◌||◌}
use Rattle.std.specs.Prelude.{Option, None, Some, is_none}
use Rattle.streetmap_geojson.specs.FeatureValue.{FeatureValue}
use Rattle.streetmap_query.specs.QueryValue.{QueryValue}
use Rattle.streetmap_ledger.specs.State.{Features}
use Rattle.streetmap_ledger.specs.Pages.{comes_after, selects, is_candidate}
use Rattle.streetmap_ledger.specs.Pages.{candidates}
use Rattle.streetmap_ledger.specs.Folds.{HoldsCandidates}
use Rattle.streetmap_ledger.specs.declared.fold.PageFold.{PageFold}
use Rattle.streetmap_ledger.specs.declared.outline.FeatureOutline.{FeatureOutline}
use Rattle.streetmap_outlines.specs.Outlines.{IsOutlineOf, has_extent, IsListedIf}
use Rattle.streetmap_grid.specs.Views.{box_value}
use Rattle.streetmap_grid.specs.declared.grid_box.GridBox.{GridBox}
use Rattle.streetmap_cells.specs.Envelopes.{IsEnvelopeOf}
use Rattle.streetmap_cells.specs.declared.envelope.Envelope.{Envelope}
use Rattle.streetmap_cells.specs.Searches.{is_marked}
use Rattle.streetmap_cells.specs.declared.marks.Marks.{Marks}
use Rattle.streetmap_outlines.specs.declared.chunk.Chunk.{Chunk}
use Rattle.streetmap_outlines.specs.declared.chunks.Chunks.{Chunks}
use Rattle.streetmap_outlines.specs.Outlines.{Pairs}

-- the box of the grid that a query has, if any, counted from the grid's corner
abbrev pub IsWindowOf : QueryValue → Option Envelope → Type 0
IsWindowOf q None = q.bbox ≡ None
IsWindowOf q (Some window) =
    (area : GridBox) × (q.bbox ≡ Some (box_value area)) × IsEnvelopeOf window (box_value area)

-- each chunk with a candidate among its outlines is marked
abbrev pub MarksCandidates : Chunks → QueryValue → Marks → Type 0
MarksCandidates outlines q marks =
    (number : ℕ) (o : FeatureOutline) (f : FeatureValue) → IsListedIf outlines.cells number o.extent
    → IsOutlineOf o f → is_candidate q f ≡ true → is_marked marks number ≡ true

-- whether a chunk is marked, if marks are given
abbrev pub is_marked_if : Option Marks → ℕ → Bool
is_marked_if None number = true
is_marked_if (Some marks) number = is_marked marks number

-- whether a chunk that is counted whole counts an outline: each if the query has no box, otherwise
-- those with an extent
abbrev pub counts : QueryValue → FeatureOutline → Bool
counts q o = is_none q.bbox || has_extent o

abbrev pub IsCountedFor : QueryValue → FeatureOutline → Type 0
IsCountedFor q o = counts q o ≡ true

-- of these features the query selects as many as this, and they are all candidates among them
pub record SelectsCandidates (q : QueryValue) (n : ℕ) (fs : List FeatureValue) : Type 0 where
  pub selected : All (λ f. selects q f ≡ true) (candidates q fs)
  pub count : length (candidates q fs) ≡ n

-- a query selects of the chunk's features as many as this, and examines no others
abbrev pub CountsWhole : QueryValue → Chunk → ℕ → Type 0
CountsWhole q chunk count =
    (features : Features) (fs : List FeatureValue) → Pairs features chunk.outlines.items fs
    → SelectsCandidates q count fs

-- each feature with one of these outlines comes after the id of the query, or none does
abbrev pub AllComeAfter : QueryValue → Bool → List FeatureOutline → Type 0
AllComeAfter q following os =
    All (λ o. (f : FeatureValue) → IsOutlineOf o f → comes_after q.after f ≡ following) os

-- the features of a chunk were met after those met before
abbrev pub TakesChunk : QueryValue → Chunk → PageFold → PageFold → Type 0
TakesChunk q chunk old new =
    (features : Features) (met fs : List FeatureValue) → Pairs features chunk.outlines.items fs
    → HoldsCandidates q old met → HoldsCandidates q new (met ++ fs)
