-- Marks stay, and a search marks what it has to.
use Rattle.std.proofs.Common.{◌≡◌, ◌<◌, ◌≤◌, ◌+◌, ◌-◌, ◌/◌, ℕ, ◌&&◌, List, IsTrue, [], ◌∷◌, length, take, get_or, arith}
use Rattle.std.specs.Prelude.{nat_le}
use Rattle.std.proofs.lemmas.Bool.{and_parts, leb-true}
use Rattle.std.proofs.lemmas.List.Elements.{All-weaker, All-more, All-contains}
use Rattle.streetmap_cells.specs.Cells.{cell_size, bucket_at}
use Rattle.streetmap_cells.specs.Envelopes.{overlaps}
use Rattle.streetmap_cells.specs.Searches.{KeepsMarks, IsMarked, AreMarked, IsSearched, AreRowsSearched, IsLevelSearched, MarksListed}
use Rattle.streetmap_cells.specs.declared.envelope.Envelope.{Envelope}
use Rattle.streetmap_cells.specs.declared.cells.Entry.{Entry}
use Rattle.streetmap_cells.specs.declared.cells.Cells.{Cells}
use Rattle.streetmap_cells.specs.declared.marks.Marks.{Marks}
use Rattle.streetmap_cells.proofs.Sizes.{size_some, earlier_cell}

some_item : {X : Type 0} → (xs : List X) → 0 < length xs → X
some_item [] h = absurd (omega arith)
some_item (x ∷ xs) h = x

pub still_marked : (window : Envelope) (old new : Marks) → KeepsMarks old new → (es : List Entry) → AreMarked window old es → AreMarked window new es
still_marked window old new keeps es h = All-weaker (IsMarked window old) (IsMarked window new) (λ e m over. keeps e.chunk (m over)) es h

-- one entry more
pub next_marked : (window : Envelope) (old new : Marks) (es : List Entry) (i : ℕ) (d : Entry) → i < length es → KeepsMarks old new → IsMarked window new (get_or es i d)
    → AreMarked window old (take i es) → AreMarked window new (take (i + 1) es)
next_marked window old new es i d within keeps one h = All-more (IsMarked window new) es i d within (still_marked window old new keeps (take i es) h) one

pub still_searched : (cells : Cells) (window : Envelope) (old new : Marks) → KeepsMarks old new → (n : ℕ) → IsSearched cells window old n → IsSearched cells window new n
still_searched cells window old new keeps n h d = still_marked window old new keeps (get_or cells.buckets.items n d).items (h d)

-- two boxes that overlap, in numbers
pub record Reach (a b : Envelope) : Type 0 where
  pub west : a.x0 ≤ b.x1
  pub east : b.x0 ≤ a.x1
  pub south : a.y0 ≤ b.y1
  pub north : b.y0 ≤ a.y1

pub reach : (a b : Envelope) → IsTrue (overlaps a b) → Reach a b
reach a b h =
    let one = and_parts (nat_le a.x0 b.x1) (nat_le b.x0 a.x1 && (nat_le a.y0 b.y1 && nat_le b.y0 a.y1)) h in
    let two = and_parts (nat_le b.x0 a.x1) (nat_le a.y0 b.y1 && nat_le b.y0 a.y1) one.1 in
    let three = and_parts (nat_le a.y0 b.y1) (nat_le b.y0 a.y1) two.1 in
    record { west = leb-true a.x0 b.x1 one.0; east = leb-true b.x0 a.x1 two.0; south = leb-true a.y0 b.y1 three.0; north = leb-true b.y0 a.y1 three.1 }

-- an extent that overlaps the window can only be in the cells of these rows and columns
pub level_searched : (cells : Cells) (window : Envelope) (marks : Marks) (level size : ℕ) → size ≡ cell_size level
    → AreRowsSearched cells window marks level ((window.y0 - size) / size) (window.y1 / size) ((window.x0 - size) / size) (window.x1 / size) → IsLevelSearched cells window marks level
level_searched cells window marks level size is h = λ x y west east south north.
    let some : 0 < cell_size level = size_some level in
    let rows : AreRowsSearched cells window marks level ((window.y0 - cell_size level) / cell_size level) (window.y1 / cell_size level) ((window.x0 - cell_size level) / cell_size level) (window.x1 / cell_size level) =
    rw is at h in
    rows (y / cell_size level)
    (earlier_cell (window.y0 - cell_size level) y (cell_size level) some (omega arith))
    (earlier_cell y window.y1 (cell_size level) some north)
    (x / cell_size level)
    (earlier_cell (window.x0 - cell_size level) x (cell_size level) some (omega arith))
    (earlier_cell x window.x1 (cell_size level) some east)

-- what is listed and overlaps the window is marked if all levels were searched
pub all_marked : (cells : Cells) (window : Envelope) (marks : Marks) → ((level : ℕ) → level < 7 → IsLevelSearched cells window marks level) → MarksListed cells window marks
all_marked cells window marks searched c e listed over =
    let r = reach e window over in
    let n = bucket_at (length cells.buckets.items) listed.level e.x0 e.y0 in
    let entry : Entry = record { extent = e; chunk = c } in
    let narrow : e.x1 ≤ e.x0 + cell_size listed.level = listed.narrow in
    let short : e.y1 ≤ e.y0 + cell_size listed.level = listed.short in
    let east : window.x0 ≤ e.x1 = r.east in
    let north : window.y0 ≤ e.y1 = r.north in
    let done : IsSearched cells window marks n = searched listed.level listed.known e.x0 e.y0 (omega arith) r.west (omega arith) r.south in
    let bucket = some_item cells.buckets.items cells.some in
    All-contains (IsMarked window marks) (get_or cells.buckets.items n bucket).items entry (done bucket) (listed.there bucket) over
