-- What is known of the features of a collection without reading them.
use Rattle.std.specs.Prelude.{◌≡◌, ◌<◌, ℕ, ℤ, ◌≤ℤ◌, Bool, List, [], ◌∷◌, All, length, map, is_some}
use Rattle.std.specs.Prelude.{Option, None, Some, slice_get}
use Rattle.std.specs.Prelude.{Vec}
use Rattle.std.specs.List.{flat_map, count_by}
use Rattle.std.specs.FinMap.{get, entries}
use Rattle.std.specs.declared.alloc.Global.{Global}
use Rattle.streetmap_grid.specs.declared.grid_box.GridBox.{GridBox}
use Rattle.streetmap_grid.specs.Views.{box_value}
use Rattle.streetmap_grid.specs.Extent.{IsWithin}
use Rattle.streetmap_grid.specs.Bounds.{AreBounds}
use Rattle.streetmap_geojson.specs.FeatureValue.{FeatureValue}
use Rattle.streetmap_geojson.specs.FeatureInvariant.{IsFeature}
use Rattle.streetmap_ledger.specs.State.{Features}
use Rattle.streetmap_ledger.specs.Outlines.{feature_outline_of}
use Rattle.streetmap_ledger.specs.Summaries.{all_vertices}
use Rattle.streetmap_ledger.specs.OutlineView.{feature_outline_value, feature_outline_values}
use Rattle.streetmap_ledger.specs.declared.outline.FeatureOutline.{FeatureOutline}
use Rattle.streetmap_cells.specs.Cells.{HasExtent}
use Rattle.streetmap_cells.specs.Envelopes.{IsEnvelopeOf}
use Rattle.streetmap_cells.specs.declared.envelope.Envelope.{Envelope}
use Rattle.streetmap_cells.specs.declared.cells.Cells.{Cells}
use Rattle.streetmap_outlines.specs.declared.chunk.Chunk.{Chunk}
use Rattle.streetmap_outlines.specs.declared.chunks.Chunks.{Chunks}

-- it is the outline of the feature under its id
abbrev pub IsOutlineOf : FeatureOutline → FeatureValue → Type 0
IsOutlineOf o f = feature_outline_value o ≡ feature_outline_of f.id f

-- the outlines of all chunks, those of each one after those of the chunk before it
abbrev pub joined : List Chunk → List FeatureOutline
joined chunks = flat_map (λ chunk. chunk.outlines.items) chunks

-- the outlines of runs, concatenated
abbrev pub joined_runs : List (Vec FeatureOutline Global) → List FeatureOutline
joined_runs runs = flat_map (λ run. run.items) runs

-- they are the outlines of these features, in byte order of ids
abbrev pub AreOutlines : List FeatureOutline → Features → Type 0
AreOutlines os features = feature_outline_values os
    ≡ map (λ e. feature_outline_of e.0 e.1) (entries features)

-- no chunk is empty
abbrev pub AreFilled : List Chunk → Type 0
AreFilled chunks = All (λ chunk. 0 < length chunk.outlines.items) chunks

-- each point of the extent, if any, lies in the bounds
abbrev pub LiesWithin : Option GridBox → Option GridBox → Type 0
LiesWithin None bounds = Unit {0}
LiesWithin (Some extent) None = ⊥
LiesWithin (Some extent) (Some bounds) = IsWithin (box_value extent) (box_value bounds)

-- the extent of each outline lies within the bounds
abbrev pub AllLieWithin : List FeatureOutline → Option GridBox → Type 0
AllLieWithin os bounds = All (λ o. LiesWithin o.extent bounds) os

-- an outline, and the feature that it is of
pub record IsEntry (features : Features) (o : FeatureOutline) (f : FeatureValue) : Type 0 where
  pub known : IsOutlineOf o f
  pub made : IsFeature f
  pub there : get features f.id ≡ Some f

-- outlines and features, one by one
abbrev pub Pairs : Features → List FeatureOutline → List FeatureValue → Type 0
Pairs features [] [] = Unit {0}
Pairs features [] (f ∷ fs) = ⊥
Pairs features (o ∷ os) [] = ⊥
Pairs features (o ∷ os) (f ∷ fs) = IsEntry features o f × Pairs features os fs

-- whether a feature has an extent
abbrev pub has_extent : FeatureOutline → Bool
has_extent o = is_some o.extent

-- the seconds of a time within bounds: its first one is not after the latest first, nor its last
-- one before the earliest last
abbrev pub IsTimedBy : Option (ℤ × ℤ) → Option (ℤ × ℤ) → Type 0
IsTimedBy seconds None = Unit {0}
IsTimedBy None (Some bounds) = ⊥
IsTimedBy (Some seconds) (Some bounds) = (seconds.0 ≤ℤ bounds.0) × (bounds.1 ≤ℤ seconds.1)

-- the same for the seconds of each outline
abbrev pub AllTimedBy : List FeatureOutline → Option (ℤ × ℤ) → Type 0
AllTimedBy os bounds = All (λ o. IsTimedBy o.seconds bounds) os

-- this is the extent, if any, counted from the corner of the grid; for no extent it ends at that
-- corner, which no box of the grid reaches
abbrev pub IsExtentIf : Envelope → Option GridBox → Type 0
IsExtentIf e None = e.x1 ≡ 0
IsExtentIf e (Some extent) = IsEnvelopeOf e (box_value extent)

-- what is kept of an outline, in the same place, is its extent
abbrev pub AreExtentsOf : List Envelope → List FeatureOutline → Type 0
AreExtentsOf es os =
    (i : ℕ) (e : Envelope) (o : FeatureOutline) → slice_get es i ≡ Some e
    → slice_get os i ≡ Some o → IsExtentIf e o.extent

-- a chunk's bounds are those of its features, and the extents of its outlines lie within them; as
-- many of these have an extent as it says; their seconds lie within its bounds of seconds; and the
-- extents in its column are theirs
pub record IsBounded (chunk : Chunk) : Type 0 where
  pub within : AllLieWithin chunk.outlines.items chunk.bounds
  pub exact : (features : Features) (fs : List FeatureValue)
      → Pairs features chunk.outlines.items fs → AreBounds (all_vertices fs) chunk.bounds
  pub counted : chunk.with_extent ≡ count_by has_extent chunk.outlines.items
  pub timed : AllTimedBy chunk.outlines.items chunk.seconds
  pub extents : AreExtentsOf chunk.extents.items chunk.outlines.items

-- the same for each chunk
abbrev pub AreBounded : List Chunk → Type 0
AreBounded chunks = All IsBounded chunks

-- chunks with the outlines of these features, in byte order of ids
pub record AreChunksOf (chunks : List Chunk) (features : Features) : Type 0 where
  pub outlines : AreOutlines (joined chunks) features
  pub filled : AreFilled chunks
  pub bounded : AreBounded chunks

-- the extent, if any, is in the cells under the number of a chunk
abbrev pub IsListedIf : Cells → ℕ → Option GridBox → Type 0
IsListedIf cells number None = Unit {0}
IsListedIf cells number (Some extent) = HasExtent cells number (box_value extent)

-- the same for the extents of these outlines
abbrev pub AreListedUnder : Cells → ℕ → List FeatureOutline → Type 0
AreListedUnder cells number os = All (λ o. IsListedIf cells number o.extent) os

-- the extents of a chunk's outlines are in the cells under its number
abbrev pub IsListedChunk : Cells → Chunk → Type 0
IsListedChunk cells chunk = AreListedUnder cells chunk.number chunk.outlines.items

-- the same for each chunk
abbrev pub AreListed : Cells → List Chunk → Type 0
AreListed cells chunks = All (IsListedChunk cells) chunks

-- the outlines of these features, in chunks and by cells
pub record AreListedChunksOf (outlines : Chunks) (features : Features) : Type 0 where
  pub chunks : AreChunksOf outlines.chunks.items features
  pub listed : AreListed outlines.cells outlines.chunks.items
