-- Extents in cells, and the chunks that a page passes over for them.
use Rattle.std.proofs.Common.{◌≡◌, ℕ, List, ◌++◌, Option, None, Some, false, IfSome}
use Rattle.std.proofs.lemmas.Bool.{false_from_ne_true, both_ways}
use Rattle.std.proofs.lemmas.List.Elements.{All-weaker}
use Rattle.streetmap_grid.specs.declared.grid_box.GridBox.{GridBox}
use Rattle.streetmap_grid.specs.Views.{box_value}
use Rattle.streetmap_geojson.specs.FeatureValue.{FeatureValue}
use Rattle.streetmap_query.specs.Views.{query_value}
use Rattle.streetmap_query.specs.declared.queries.Query.{Query}
use Rattle.streetmap_ledger.specs.State.{Features}
use Rattle.streetmap_ledger.specs.Pages.{is_candidate}
use Rattle.streetmap_ledger.specs.Folds.{HoldsCandidates}
use Rattle.streetmap_ledger.specs.declared.fold.PageFold.{PageFold}
use Rattle.streetmap_ledger.specs.declared.outline.FeatureOutline.{FeatureOutline}
use Rattle.streetmap_cells.specs.Cells.{KeepsExtents}
use Rattle.streetmap_cells.specs.Searches.{is_marked}
use Rattle.streetmap_cells.specs.declared.cells.Cells.{Cells}
use Rattle.streetmap_cells.specs.declared.marks.Marks.{Marks}
use Rattle.streetmap_outlines.specs.Outlines.{IsOutlineOf, IsListedIf, AreListedUnder, IsListedChunk, AreListed}
use Rattle.streetmap_outlines.specs.Outlines.{Pairs}
use Rattle.streetmap_outlines.specs.Selections.{MarksCandidates, is_marked_if}
use Rattle.streetmap_outlines.specs.declared.chunk.Chunk.{Chunk}
use Rattle.streetmap_outlines.specs.declared.chunks.Chunks.{Chunks}
use Rattle.streetmap_outlines.proofs.Covering.{passed_over}

-- ---- more in the cells
pub still_listed_if : (old new : Cells) → KeepsExtents old new → (number : ℕ) (extent : Option GridBox) → IsListedIf old number extent →
    IsListedIf new number extent
still_listed_if old new keeps number None h = tt
still_listed_if old new keeps number (Some extent) h = keeps number (box_value extent) h

abbrev pub Listed : Cells → ℕ → FeatureOutline → Type 0
Listed cells number o = IsListedIf cells number o.extent

pub still_under : (old new : Cells) → KeepsExtents old new → (number : ℕ) (os : List FeatureOutline) → AreListedUnder old number os →
    AreListedUnder new number os
still_under old new keeps number os h = All-weaker (Listed old number) (Listed new number) (λ o held. still_listed_if old new keeps number o.extent held) os h

pub still_listed : (old new : Cells) → KeepsExtents old new → (cs : List Chunk) → AreListed old cs → AreListed new cs
still_listed old new keeps cs h = All-weaker (IsListedChunk old) (IsListedChunk new) (λ chunk held.
    still_under old new keeps chunk.number chunk.outlines.items held) cs h

-- ---- chunks with no mark have no candidates

none_marked : (outlines : Chunks) (q : Query) (marks : Option Marks) (number : ℕ) → IfSome marks (MarksCandidates outlines (query_value q)) →
    is_marked_if marks number ≡ false
    → (o : FeatureOutline) (f : FeatureValue) → IsListedIf outlines.cells number o.extent → IsOutlineOf o f → is_candidate (query_value q) f ≡ false
none_marked outlines q None number says off o f listed is = absurd cc
none_marked outlines q (Some marks) number says off o f listed is = false_from_ne_true _
    (λ on. both_ways (is_marked marks number) off (says number o f listed is on))

pub unmarked_over : (outlines : Chunks) (q : Query) (marks : Option Marks) → IfSome marks (MarksCandidates outlines (query_value q)) →
    (fold : PageFold) (features : Features) (chunk : Chunk) → is_marked_if marks chunk.number ≡ false → IsListedChunk outlines.cells chunk
    → (met fs : List FeatureValue) → Pairs features chunk.outlines.items fs → HoldsCandidates (query_value q) fold met →
    HoldsCandidates (query_value q) fold (met ++ fs)
unmarked_over outlines q marks says fold features chunk off listed = passed_over (Listed outlines.cells chunk.number) q fold features
    (none_marked outlines q marks chunk.number says off) chunk.outlines.items listed
