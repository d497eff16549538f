-- Files that hold no database yet have no table, index or view.
use Rattle.std.proofs.Common.{Option, unwrap_or, ◌≡◌, inl, inr, ℕ, ◌<◌, ◌≤◌, List, [], ◌∷◌, length, take, slice_index, get_or-take, Some, true, false, refl}
use Rattle.std.proofs.Common.{sym, ap, subst, ◌∙◌, arith}
use Rattle.std.proofs.lemmas.List.{length-take}
use Rattle.std.proofs.Math.Logic.{∥∥₁_elim}
use mathlib.Core.HLevel.{⊥_prop}
use Rattle.std.specs.List.{AllZip}
use Rattle.sqlite.specs.Schema.{Schema}
use Rattle.sqlite.specs.Files.{AreFoundIn, IsNothing}
use Rattle.sqlite_schema.specs.declared.schema.Table.{Table}
use Rattle.sqlite_schema.specs.declared.schema.Index.{Index}
use Rattle.sqlite_schema.specs.declared.schema.View.{View}
use Rattle.sqlite_trees.specs.Tree.{Trees}
use Rattle.sqlite_trees.specs.Objects.{catalog_tree}
use Rattle.sqlite_catalog.specs.Listing.{IsSound, Lists, IsTableRow, IsIndexRow, IsViewRow}
use Rattle.sqlite_wal.specs.Recovery.{Image}
use Rattle.sqlite_wal.proofs.CreateLemmas.{begun_is_not_blank}
use Rattle.sqlite_wal.proofs.AppendLemmas.{some_value}
use Rattle.sqlite_pages.specs.PageMap.{PageMap}
use Rattle.sqlite_pool.specs.Stored.{used_size, stored_size, Adopts, sealed}
use Rattle.sqlite_pool.specs.StoredLaws.{trimmed_some}
use Rattle.sqlite_pool.specs.Header.{first_page}
use Rattle.sqlite_pool.specs.File.{IsSoundFile, header_in}
use Rattle.sqlite_pool.proofs.ProbeLemmas.{first_byte}
use Rattle.streetmap_tables.specs.Creation.{HasRoom, is_taken}
use Rattle.streetmap_store.specs.Reasons.{NewFilesLeaveRoom}

-- a first page begins with the S of SQLite, which no blank file does
sound_is_something : (size : ℕ) (image : Image) (pages : PageMap) → Adopts size image pages → IsSoundFile size pages → IsNothing image → ⊥
sound_is_something size image pages found sound nothing =
    let (page, is) = some_value (found.stored 1) found.whole.first in
    let used : pages 1 ≡ Some (take size page) = ap (λ (p : PageMap). p 1) (sym found.shows) ∙ trimmed_some size _ 1 page is in
    let head : header_in pages ≡ take 100 (take size page) = ap (λ (o : Option (List ℕ)). take 100 (unwrap_or o [])) used in
    let magic = sound.header.0.magic in
    let long : 16 ≤ length (header_in pages) = (let e = ap length magic in omega (arith, e, length-take 16 (header_in pages))) in
    let large : 16 ≤ size = (let e = ap length head in omega (arith, e, long, length-take 100 (take size page), length-take size page)) in
    let begins : slice_index page 0 ≡ 83 =
    sym (ap (λ (b : List ℕ). slice_index b 0) head ∙ get_or-take 100 (take size page) 0 0 (omega arith) ∙ get_or-take size page 0 0 (omega arith))
    ∙ sym (get_or-take 16 (header_in pages) 0 0 (omega arith)) ∙ ap (λ (b : List ℕ). slice_index b 0) magic in
    let never = λ (other : ℕ) (some : 0 < other).
    let gate = first_byte other some in
    begun_is_not_blank (sealed (first_page other)) page (stored_size size) image found.stored found.found is (found.whole.sized 1 page is) (omega arith)
    (begins ∙ sym gate) (λ none. let never = sym gate ∙ none in omega arith) in
    elim nothing [ inl plain ↦ never (used_size 4096 false) (omega arith) plain | inr summed ↦ never (used_size 4096 true) (omega arith) summed ]

-- what is found in blank files is empty
found_empty : (image : Image) (db : Trees) → IsNothing image → AreFoundIn image db → db catalog_tree ≡ []
found_empty image db nothing (inl found) = absurd (∥∥₁_elim found.4 ⊥_prop (λ ours. sound_is_something found.0 image found.1 found.3 ours.file.sound nothing))
found_empty image db nothing (inr empty) = empty.1.1

-- no row is of a table
no_table : (ts : List Table) → AllZip IsTableRow [] ts → ts ≡ []
no_table [] h = refl
no_table (t ∷ ts) h = absurd h

no_index : (tables : List Table) (ts : List Index) → AllZip (IsIndexRow tables) [] ts → ts ≡ []
no_index tables [] h = refl
no_index tables (t ∷ ts) h = absurd h

no_view : (ts : List View) → AllZip IsViewRow [] ts → ts ≡ []
no_view [] h = refl
no_view (t ∷ ts) h = absurd h

bare_has_room : (schema : Schema) → schema.tables ≡ [] → HasRoom schema
bare_has_room schema none = rw none (record { apart = tt; alone = tt; counted = refl })

pub new_leaves_room : NewFilesLeaveRoom
new_leaves_room image nothing db schema found sound =
    let lists : Lists [] schema = subst (λ rows. Lists rows schema) (found_empty image db nothing found) sound.lists in
    bare_has_room schema (no_table schema.tables lists.listed.tables)

pub new_takes_none : (image : Image) → IsNothing image → (db : Trees) (schema : Schema) → AreFoundIn image db → IsSound schema db → is_taken schema ≡ false
new_takes_none image nothing db schema found sound =
    let lists : Lists [] schema = subst (λ rows. Lists rows schema) (found_empty image db nothing found) sound.lists in
    rw (no_table schema.tables lists.listed.tables, no_index schema.tables schema.indexes lists.listed.indexes, no_view schema.views lists.listed.views) refl
