-- What a search of cells marks.
use Rattle.std.specs.Prelude.{ℕ, ◌+◌, ◌≤◌, Bool, true, IsTrue, List, All, length, slice_get}
use Rattle.std.specs.Prelude.{unwrap_or}
use Rattle.std.specs.List.{HoldsAt}
use Rattle.std.specs.declared.vec.Vec.{Vec}
use Rattle.std.specs.declared.alloc.Global.{Global}
use Rattle.streetmap_grid.specs.Values.{BoxValue}
use Rattle.streetmap_grid.specs.Extent.{overlaps as boxes_overlap}
use Rattle.streetmap_cells.specs.Cells.{cell_size, bucket_of_cell, bucket_at, IsListed, HasExtent}
use Rattle.streetmap_cells.specs.Envelopes.{overlaps}
use Rattle.streetmap_cells.specs.declared.envelope.Envelope.{Envelope}
use Rattle.streetmap_cells.specs.declared.cells.Entry.{Entry}
use Rattle.streetmap_cells.specs.declared.cells.Cells.{Cells}
use Rattle.streetmap_cells.specs.declared.marks.Marks.{Marks}

-- whether a chunk is marked: one whose number is too large for the marks is
abbrev pub is_marked : Marks → ℕ → Bool
is_marked marks chunk = unwrap_or (slice_get marks.marked.items chunk) true

-- no mark is lost
abbrev pub KeepsMarks : Marks → Marks → Type 0
KeepsMarks old new = (chunk : ℕ) → IsTrue (is_marked old chunk) → IsTrue (is_marked new chunk)

-- the chunk of an entry that overlaps the window is marked
abbrev pub IsMarked : Envelope → Marks → Entry → Type 0
IsMarked window marks e = IsTrue (overlaps e.extent window) → IsTrue (is_marked marks e.chunk)

-- the same for each of these entries
abbrev pub AreMarked : Envelope → Marks → List Entry → Type 0
AreMarked window marks entries = All (IsMarked window marks) entries

-- the same for the entries of a bucket
abbrev pub IsSearched : Cells → Envelope → Marks → ℕ → Type 0
IsSearched cells window marks bucket =
    HoldsAt (λ (b : Vec Entry Global). AreMarked window marks b.items) cells.buckets.items bucket

-- the same for the entries of a cell's bucket
abbrev pub IsCellSearched : Cells → Envelope → Marks → ℕ → ℕ → ℕ → Type 0
IsCellSearched cells window marks level column row =
    IsSearched cells window marks (bucket_of_cell (length cells.buckets.items) level column row)

-- the same for the entries of the cells of a row between two columns, with these
abbrev pub IsRowSearched : Cells → Envelope → Marks → ℕ → ℕ → ℕ → ℕ → Type 0
IsRowSearched cells window marks level row first last =
    (column : ℕ) → first ≤ column → column ≤ last
    → IsCellSearched cells window marks level column row

-- the same for the entries of the rows between two, with these
abbrev pub AreRowsSearched : Cells → Envelope → Marks → ℕ → ℕ → ℕ → ℕ → ℕ → Type 0
AreRowsSearched cells window marks level low high first last =
    (row : ℕ) → low ≤ row → row ≤ high → IsRowSearched cells window marks level row first last

-- on a level, the same for the entries of each cell that can have an extent which overlaps the
-- window
abbrev pub IsLevelSearched : Cells → Envelope → Marks → ℕ → Type 0
IsLevelSearched cells window marks level =
    (x y : ℕ) → window.x0 ≤ x + cell_size level → x ≤ window.x1 → window.y0 ≤ y + cell_size level
    → y ≤ window.y1
    → IsSearched cells window marks (bucket_at (length cells.buckets.items) level x y)

-- each chunk is marked with a listed extent that overlaps the window
abbrev pub MarksListed : Cells → Envelope → Marks → Type 0
MarksListed cells window marks =
    (chunk : ℕ) (e : Envelope) → IsListed cells chunk e → IsTrue (overlaps e window)
    → IsTrue (is_marked marks chunk)

-- each chunk is marked that has an extent that overlaps the box
abbrev pub MarksAll : Cells → BoxValue → Marks → Type 0
MarksAll cells box marks =
    (chunk : ℕ) (extent : BoxValue) → HasExtent cells chunk extent
    → IsTrue (boxes_overlap extent box) → IsTrue (is_marked marks chunk)
