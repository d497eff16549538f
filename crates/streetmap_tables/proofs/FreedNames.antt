-- The name of a table that was dropped is free.
use Rattle.std.proofs.Common.{◌≡◌, ℕ, Bool, false, not, List, filter, None, refl, sym, ap, ◌∙◌, true≢false}
use Rattle.std.specs.Prelude.{◌==◌}
use Rattle.std.specs.List.{position_from}
use Rattle.std.proofs.lemmas.Bool.{false_from_ne_true, eq-eqb}
use Rattle.sqlite.specs.Schema.{Schema}
use Rattle.sqlite.specs.Table.{Table}
use Rattle.sqlite.specs.Effect.{Database, IsDatabase}
use Rattle.sqlite_schema.specs.declared.schema.Index.{Index}
use Rattle.sqlite_schema.specs.Names.{same_name, table_named, index_named, view_named}
use Rattle.sqlite_catalog.specs.Change.{is_used, without_table}
use Rattle.sqlite_catalog.proofs.SoundLemmas.{lowered}
use Rattle.sqlite_catalog.proofs.StepLemmas.{no_table, no_index, no_view, named_once}
use Rattle.sqlite_catalog.proofs.ListFacts.{none_placed}
use Rattle.sqlite_rules.proofs.ListLemmas.{has_filtered, has_found}
use Rattle.streetmap_rows.specs.Tables.{IsNamed}
use Rattle.streetmap_tables.specs.Drops.{Dropped}
use Rattle.streetmap_tables.proofs.ViewNames.{none_named, no_such_view, no_such_index}

unused : (schema : Schema) (name : List ℕ) → table_named schema name ≡ None → index_named schema name ≡ None → view_named schema name ≡ None →
    is_used schema name ≡ false
unused schema name t i v = rw (t, i, v) refl

none_left : {A : Type 0} (p keep : A → Bool) (xs : List A) → position_from p 0 xs ≡ None → position_from p 0 (filter keep xs) ≡ None
none_left p keep xs none = none_named p 0 (filter keep xs) (λ x h. none_placed p xs 0 x none (has_filtered keep xs x h).0)

module _ (old new : Database) (table : Table) (d : Dropped table old new) where
  -- what was free is free
  pub free_left : (name : List ℕ) → is_used old.schema name ≡ false → is_used new.schema name ≡ false
  free_left name free = ap (λ s. is_used s name) d.schema ∙ unused (without_table old.schema table.tree) name
      (none_left (λ (t : Table). same_name t.name name) (λ t. not (t.tree == table.tree)) old.schema.tables (no_table old.schema name free))
      (none_left (λ (i : Index). same_name i.name name) (λ i. not (i.table == table.tree)) old.schema.indexes (no_index old.schema name free))
      (no_view old.schema name free)

  -- and so is the name that found the table
  pub freed : (name : List ℕ) → IsDatabase old → IsNamed old.schema name table → is_used new.schema name ≡ false
  freed name sound named = ap (λ s. is_used s name) d.schema ∙ unused (without_table old.schema table.tree) name
      (none_named (λ (t : Table). same_name t.name name) 0 (filter (λ (t : Table). not (t.tree == table.tree)) old.schema.tables)
      (λ t h. false_from_ne_true _ (λ same.
      let was = has_filtered (λ (u : Table). not (u.tree == table.tree)) old.schema.tables t h in
      let it = has_found (λ (u : Table). same_name u.name name) old.schema.tables table named in
      let one = named_once old.schema.tables t table sound.lists.listed.named was.0 it.0
      ((lowered t.name table.name).1 ((lowered t.name name).0 same ∙ sym ((lowered table.name name).0 it.1))) in
      true≢false (sym was.1 ∙ ap (λ (u : Table). not (u.tree == table.tree)) one ∙ ap not (eq-eqb table.tree table.tree refl)))))
      (none_left (λ (i : Index). same_name i.name name) (λ i. not (i.table == table.tree)) old.schema.indexes (no_such_index old sound name table named))
      (no_such_view old sound name table named)
