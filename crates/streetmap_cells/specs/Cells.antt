-- The entries in cells.
use Rattle.std.specs.Prelude.{ℕ, ◌+◌, ◌*◌, ◌/◌, ◌%◌, ◌^◌, ◌<◌, ◌≤◌, Contains, length}
use Rattle.std.specs.List.{HoldsAt}
use Rattle.std.specs.declared.vec.Vec.{Vec}
use Rattle.std.specs.declared.alloc.Global.{Global}
use Rattle.streetmap_grid.specs.Values.{BoxValue}
use Rattle.streetmap_cells.specs.Envelopes.{IsEnvelopeOf}
use Rattle.streetmap_cells.specs.declared.envelope.Envelope.{Envelope}
use Rattle.streetmap_cells.specs.declared.cells.Entry.{Entry}
use Rattle.streetmap_cells.specs.declared.cells.Cells.{Cells}

-- the width and height of the cells on a level, in millimetres: 33 m, and eight times as much on
-- each next level
abbrev pub cell_size : ℕ → ℕ
cell_size level = 32768 * 8 ^ level

-- the number of the bucket, among `count` of them, that has a cell's entries
unfoldable pub bucket_of_cell : ℕ → ℕ → ℕ → ℕ → ℕ
bucket_of_cell count level column row =
    (level * 83492791 + column * 73856093 + row * 19349663) % count

-- that of the cell around a point
abbrev pub bucket_at : ℕ → ℕ → ℕ → ℕ → ℕ
bucket_at count level x y = bucket_of_cell count level (x / cell_size level) (y / cell_size level)

-- a bucket has this entry
abbrev pub HasEntry : Entry → Vec Entry Global → Type 0
HasEntry entry bucket = Contains bucket.items entry

-- a chunk with an outline of this extent is in the cell around its south-western corner, on a level
-- with cells as large as the extent
pub record IsListed (cells : Cells) (chunk : ℕ) (extent : Envelope) : Type 0 where
  pub level : ℕ
  pub known : level < 7
  pub narrow : extent.x1 ≤ extent.x0 + cell_size level
  pub short : extent.y1 ≤ extent.y0 + cell_size level
  pub there : HoldsAt (HasEntry (record { extent = extent; chunk = chunk })) cells.buckets.items
      (bucket_at (length cells.buckets.items) level extent.x0 extent.y0)

-- what was listed is listed
abbrev pub KeepsListed : Cells → Cells → Type 0
KeepsListed old new =
    (chunk : ℕ) (extent : Envelope) → IsListed old chunk extent → IsListed new chunk extent

-- a chunk with an outline of this extent is listed
abbrev pub HasExtent : Cells → ℕ → BoxValue → Type 0
HasExtent cells chunk box = (e : Envelope) × (IsEnvelopeOf e box × IsListed cells chunk e)

-- no extent is lost
abbrev pub KeepsExtents : Cells → Cells → Type 0
KeepsExtents old new =
    (chunk : ℕ) (box : BoxValue) → HasExtent old chunk box → HasExtent new chunk box
