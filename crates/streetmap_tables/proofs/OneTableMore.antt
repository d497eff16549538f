-- A schema with one more table.
use Rattle.std.proofs.Common.{◌≡◌, inl, inr, ℕ, ◌+◌, ◌<◌, Bool, List, [], ◌∷◌, ◌++◌, refl, Some, None, Option, true, false, not, ◌&&◌, ◌||◌, find, is_some, ap}
use Rattle.std.proofs.Common.{sym, subst, ◌∙◌, arith}
use Rattle.std.specs.Prelude.{codes}
use Rattle.std.specs.Option.{option_or}
use Rattle.std.specs.List.{AllByRecursion, list_any, list_all, position_from}
use Rattle.std.proofs.lemmas.Bool.{cases_Bool, true≢false}
use Rattle.std.proofs.lemmas.List.Folds.{find-append, list_any-append}
use Rattle.sqlite.specs.Schema.{Schema}
use Rattle.sqlite.specs.Table.{Table}
use Rattle.sqlite.specs.Rows.{sequence}
use Rattle.sqlite.specs.Effect.{Database, IsDatabase}
use Rattle.sqlite_schema.specs.declared.schema.Index.{Index}
use Rattle.sqlite_schema.specs.Names.{same_name, table_named}
use Rattle.sqlite_trees.specs.Tree.{Trees}
use Rattle.sqlite_catalog.specs.Change.{next_tree, created, is_used, automatics}
use Rattle.sqlite_catalog.specs.Listing.{IsIndexRow}
use Rattle.sqlite_catalog.proofs.LayoutLemmas.{zipped_left, index_owner}
use Rattle.sqlite_catalog.proofs.StepLemmas.{table_below}
use Rattle.sqlite_catalog.proofs.ListFacts.{ascending_push}
use Rattle.sqlite_rules.specs.Lists.{Has}
use Rattle.sqlite_rules.proofs.ListLemmas.{all_has, has_left, has_either, has_found}
use Rattle.streetmap_rows.proofs.NamedTables.{is_at}
use Rattle.streetmap_rows.specs.Tables.{IsNamed, features_name}
use Rattle.streetmap_tables.specs.Made.{Created}
use Rattle.streetmap_tables.specs.Creation.{HasRoom, KeepsOtherTables}
use Rattle.streetmap_tables.proofs.FullSchemas.{or_false}

-- ---- lists

not_placed : {A : Type 0} (p : A → Bool) (n : ℕ) (xs : List A) → is_some (position_from p n xs) ≡ false → find p xs ≡ None
not_placed p n [] h = refl
not_placed p n (x ∷ xs) h = elim (cases_Bool (p x)) [
  | inl here ↦ absurd (true≢false (rw here at h))
  | inr other ↦ rw other (not_placed p (n + 1) xs (rw other at h))
]

not_found : {A : Type 0} (p : A → Bool) (n : ℕ) (xs : List A) → find p xs ≡ None → position_from p n xs ≡ None
not_found p n [] h = refl
not_found p n (x ∷ xs) h = elim (cases_Bool (p x)) [
  | inl here ↦ absurd (let e = rw here at h in cc)
  | inr other ↦ rw other (not_found p (n + 1) xs (rw other at h))
]

all_push : {A : Type 0} (P : A → Type 0) (xs : List A) (x : A) → AllByRecursion P xs → P x → AllByRecursion P (xs ++ x ∷ [])
all_push P [] x all one = (one, tt)
all_push P (y ∷ xs) x all one = (all.0, all_push P xs x all.1 one)

or_true : (b : Bool) → (b || true) ≡ true
or_true true = refl
or_true false = refl

-- ---- the table of counts

abbrev pub is_sequence : Table → Bool
is_sequence t = same_name t.name (codes "sqlite_sequence")

pub sequence_found : (schema : Schema) → is_some (sequence schema) ≡ true → (o : Option Table) → find is_sequence schema.tables ≡ o → (t : Table)
    × (find is_sequence schema.tables ≡ Some t)
sequence_found schema h (Some t) is = (t, is)
sequence_found schema h None is = absurd (true≢false (sym (rw (not_found is_sequence 0 schema.tables is) at h)))

pub found_sequence : (schema : Schema) (t : Table) → find is_sequence schema.tables ≡ Some t → is_some (sequence schema) ≡ true
found_sequence schema t h =
    let it = is_at is_sequence 0 schema.tables t h in
    let at : table_named schema (codes "sqlite_sequence") ≡ Some it.at = it.position ∙ ap (λ k. Some k) (omega arith) in
    rw (at, it.listed) refl

lacks_none : (b c s t : Bool) → (b && not s) ≡ false → c ≡ b → (s ≡ true → t ≡ true) → (c && not t) ≡ false
lacks_none false c s t h same more = rw same refl
lacks_none true c false t h same more = absurd (true≢false h)
lacks_none true c true t h same more = rw (same, more refl) refl

-- ---- a name

pub free_table : (schema : Schema) (name : List ℕ) → is_used schema name ≡ false → is_some (table_named schema name) ≡ false
free_table schema name h = elim (cases_Bool (is_some (table_named schema name))) [ inl used ↦ absurd (true≢false (rw used at h)) | inr free ↦ free ]

pub unnamed : (schema : Schema) (name : List ℕ) → is_used schema name ≡ false → find (λ t. same_name t.name name) schema.tables ≡ None
unnamed schema name h = not_placed (λ (t : Table). same_name t.name name) 0 schema.tables (free_table schema name h)

-- the indexes on a tree
abbrev pub OnTree : Schema → ℕ → (Index → Type 0) → Type 0
OnTree schema tree P = (i : Index) → Has schema.indexes i → i.table ≡ tree → P i

automatics_on : (t : Table) (at tree : ℕ) (keys : List (List ℕ)) (i : Index) → Has (automatics t at tree keys) i → i.table ≡ t.tree
automatics_on t at tree [] i h = absurd h
automatics_on t at tree (key ∷ keys) i (inl e) = ap (λ j. j.table) e
automatics_on t at tree (key ∷ keys) i (inr h) = automatics_on t (at + 1) (tree + 1) keys i h

abbrev pub references_none : Table → Type 0
references_none t = list_all (λ ref. not (same_name features_name ref.parent)) t.references ≡ true

module _ (schema : Schema) (table : Table) where
  abbrev pub fresh : Table
  fresh = record table { tree = next_tree schema }

  abbrev after : Schema
  after = created schema table

  pub room_created : references_none table → table.is_counted ≡ false → HasRoom schema → HasRoom after
  room_created apart uncounted room = record {
    apart = ascending_push (λ a b. a.tree ≡ b.tree → ⊥) schema.tables fresh room.apart (λ t h same. omega (arith, table_below schema t h, same));
    alone = all_push references_none schema.tables fresh room.alone apart;
    counted = lacks_none (list_any (λ t. t.is_counted) schema.tables) (list_any (λ t. t.is_counted) after.tables) (is_some (sequence schema))
        (is_some (sequence after)) room.counted
        (list_any-append (λ (t : Table). t.is_counted) schema.tables (fresh ∷ []) ∙ ap (λ b. list_any (λ t. t.is_counted) schema.tables || (b || false))
        uncounted ∙ or_false _)
        (λ has. let it = sequence_found schema has _ refl in found_sequence after it.0 (find-append is_sequence schema.tables (fresh ∷ [])
        ∙ ap (λ o. option_or o (find is_sequence (fresh ∷ []))) it.1));
  }

  named_still : (name : List ℕ) (t : Table) → IsNamed schema name t → IsNamed after name t
  named_still name t h = find-append (λ (u : Table). same_name u.name name) schema.tables (fresh ∷ [])
      ∙ ap (λ o. option_or o (find (λ u. same_name u.name name) (fresh ∷ []))) h

  named_now : (name : List ℕ) → is_used schema name ≡ false → same_name table.name name ≡ true → IsNamed after name fresh
  named_now name free same =
      find-append (λ (u : Table). same_name u.name name) schema.tables (fresh ∷ []) ∙ ap (λ o. option_or o (find (λ u. same_name u.name name) (fresh ∷ [])))
      (unnamed schema name free) ∙ (rw same refl)

  on_still : (tree : ℕ) (P : Index → Type 0) → tree < next_tree schema → OnTree schema tree P → OnTree after tree P
  on_still tree P below was i h e = elim (has_either schema.indexes (automatics fresh 0 (next_tree schema + 1) table.uniques) i h) [
    | inl old ↦ was i old e
    | inr new ↦ absurd (omega (arith, automatics_on fresh 0 (next_tree schema + 1) table.uniques i new, e, below))
  ]

  on_now : (db : Trees) → IsDatabase (record { schema = schema; trees = db }) → (P : Index → Type 0) →
      ((i : Index) → Has (automatics fresh 0 (next_tree schema + 1) table.uniques) i → P i) → OnTree after (next_tree schema) P
  on_now db sound P all i h e = elim (has_either schema.indexes (automatics fresh 0 (next_tree schema + 1) table.uniques) i h) [
    | inl old ↦ absurd (
        let row = zipped_left (IsIndexRow schema.tables) _ schema.indexes i sound.lists.listed.indexes old in
        omega (arith, table_below schema row.2.table row.2.listed, index_owner row.2.table i _ row.2.defined, e))
    | inr new ↦ all i new
  ]

  any_still : (p : Index → Bool) → list_any p schema.indexes ≡ true → list_any p after.indexes ≡ true
  any_still p h = list_any-append p schema.indexes (automatics fresh 0 (next_tree schema + 1) table.uniques)
      ∙ ap (λ b. b || list_any p (automatics fresh 0 (next_tree schema + 1) table.uniques)) h

  any_now : (p : Index → Bool) → list_any p (automatics fresh 0 (next_tree schema + 1) table.uniques) ≡ true → list_any p after.indexes ≡ true
  any_now p h = list_any-append p schema.indexes (automatics fresh 0 (next_tree schema + 1) table.uniques) ∙ ap (λ b. list_any p schema.indexes || b) h
      ∙ or_true _

-- ---- a table that was made

module _ (table : Table) (old new : Database) (c : Created table old new) where
  pub room_after : references_none table → table.is_counted ≡ false → HasRoom old.schema → HasRoom new.schema
  room_after alone uncounted room = subst HasRoom (sym c.schema) (room_created old.schema table alone uncounted room)

  pub named_kept : (name : List ℕ) (t : Table) → IsNamed old.schema name t → IsNamed new.schema name t
  named_kept name t h = subst (λ s. IsNamed s name t) (sym c.schema) (named_still old.schema table name t h)

  pub named_new : (same : same_name table.name table.name ≡ true) → IsNamed new.schema table.name (fresh old.schema table)
  named_new same = subst (λ s. IsNamed s table.name (fresh old.schema table)) (sym c.schema) (named_now old.schema table table.name c.free same)

  pub on_kept : (tree : ℕ) (P : Index → Type 0) → tree < next_tree old.schema → OnTree old.schema tree P → OnTree new.schema tree P
  on_kept tree P below was = subst (λ s. OnTree s tree P) (sym c.schema) (on_still old.schema table tree P below was)

  pub on_new : IsDatabase old → (P : Index → Type 0) → ((i : Index) → Has (automatics (fresh old.schema table) 0 (next_tree old.schema + 1) table.uniques) i →
      P i) → OnTree new.schema (next_tree old.schema) P
  on_new sound P all = subst (λ s. OnTree s (next_tree old.schema) P) (sym c.schema) (on_now old.schema table old.trees sound P all)

  pub any_kept : (p : Index → Bool) → list_any p old.schema.indexes ≡ true → list_any p new.schema.indexes ≡ true
  any_kept p h = subst (λ (s : Schema). list_any p s.indexes ≡ true) (sym c.schema) (any_still old.schema table p h)

  pub any_new : (p : Index → Bool) → list_any p (automatics (fresh old.schema table) 0 (next_tree old.schema + 1) table.uniques) ≡ true →
      list_any p new.schema.indexes ≡ true
  any_new p h = subst (λ (s : Schema). list_any p s.indexes ≡ true) (sym c.schema) (any_now old.schema table p h)

  pub others_kept : KeepsOtherTables old new
  others_kept t had other = (
    subst (λ (s : Schema). Has s.tables t) (sym c.schema) (has_left old.schema.tables (fresh old.schema table ∷ []) t had),
    all_has (λ (u : Table). new.trees u.tree ≡ old.trees u.tree) old.schema.tables t c.others had,
  )

  -- the tree of an existing table is below the next, and keeps its rows
  pub below : (name : List ℕ) (t : Table) → IsNamed old.schema name t → t.tree < next_tree old.schema
  below name t h = table_below old.schema t (has_found (λ (u : Table). same_name u.name name) old.schema.tables t h).0

  pub rows_kept : (name : List ℕ) (t : Table) → IsNamed old.schema name t → new.trees t.tree ≡ old.trees t.tree
  rows_kept name t h = all_has (λ (u : Table). new.trees u.tree ≡ old.trees u.tree) old.schema.tables t c.others
      (has_found (λ (u : Table). same_name u.name name) old.schema.tables t h).0
