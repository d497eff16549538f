-- A schema without a table that was dropped.
use Rattle.std.proofs.Common.{◌≡◌, ◌≢◌, ℕ, Bool, true, false, not, ◌&&◌, List, is_some, refl, sym, ap, subst, ◌∙◌, true≢false}
use Rattle.std.specs.Prelude.{codes, ◌==◌}
use Rattle.std.specs.List.{list_any}
use Rattle.std.proofs.lemmas.Bool.{ne_eqb}
use Rattle.sqlite.specs.Schema.{Schema}
use Rattle.sqlite.specs.Table.{Table}
use Rattle.sqlite.specs.Effect.{Database}
use Rattle.sqlite.specs.Rows.{sequence}
use Rattle.sqlite_schema.specs.declared.schema.Index.{Index}
use Rattle.sqlite_schema.specs.Names.{same_name}
use Rattle.sqlite_trees.specs.Tree.{IsAscending}
use Rattle.sqlite_catalog.proofs.LayoutLemmas.{ascending_filter}
use Rattle.sqlite_rules.specs.Lists.{Has}
use Rattle.sqlite_rules.proofs.ListLemmas.{all_has, all_from, has_filtered, has_kept, has_found, some_has, some_from}
use Rattle.sqlite_rules.proofs.RuleLemmas.{same_table}
use Rattle.streetmap_rows.specs.Tables.{IsNamed}
use Rattle.streetmap_rows.specs.Elsewhere.{is_our_name}
use Rattle.streetmap_tables.specs.Creation.{HasRoom, KeepsOtherTables}
use Rattle.streetmap_tables.proofs.OneTableMore.{is_sequence, sequence_found, found_sequence, references_none}
use Rattle.streetmap_tables.specs.Drops.{Dropped}
use Rattle.streetmap_tables.proofs.LeftOutLists.{find_left}

-- a list that has none left of what another lacks
lacks_still : (b c s t : Bool) → (b && not s) ≡ false → (c ≡ true → b ≡ true) → (s ≡ true → t ≡ true) → (c && not t) ≡ false
lacks_still b false s t h same more = refl
lacks_still true true false t h same more = absurd (true≢false h)
lacks_still true true true t h same more = rw (more refl) refl
lacks_still false true s t h same more = absurd (true≢false (sym (same refl)))

module _ (old new : Database) (table : Table) (apart : IsAscending (λ a b. a.tree ≡ b.tree → ⊥) old.schema.tables) (there : Has old.schema.tables table)
    (d : Dropped table old new) where
  stays : (tree : ℕ) → tree ≢ table.tree → not (tree == table.tree) ≡ true
  stays tree other = ap not (ne_eqb tree table.tree other)

  pub named_left : (name : List ℕ) (t : Table) → IsNamed old.schema name t → t.tree ≢ table.tree → IsNamed new.schema name t
  named_left name t h other = subst (λ (s : Schema). IsNamed s name t) (sym d.schema) (find_left (λ (u : Table). same_name u.name name)
      (λ (u : Table). not (u.tree == table.tree)) old.schema.tables t h (stays t.tree other))

  pub was_there : (t : Table) → Has new.schema.tables t → Has old.schema.tables t
  was_there t h = (has_filtered _ old.schema.tables t (subst (λ (s : Schema). Has s.tables t) d.schema h)).0

  pub there_still : (t : Table) → Has old.schema.tables t → t.tree ≢ table.tree → Has new.schema.tables t
  there_still t h other = subst (λ (s : Schema). Has s.tables t) (sym d.schema) (has_kept (λ (u : Table). not (u.tree == table.tree)) old.schema.tables t h
      (stays t.tree other))

  pub rows_left : (t : Table) → Has old.schema.tables t → t.tree ≢ table.tree → new.trees t.tree ≡ old.trees t.tree
  rows_left t h other = all_has (λ (u : Table). new.trees u.tree ≡ old.trees u.tree) new.schema.tables t d.rows (there_still t h other)

  pub others_left : is_our_name table.name ≡ true → KeepsOtherTables old new
  others_left ours t had foreign =
      let other : t.tree ≢ table.tree = λ same. true≢false (sym ours ∙ ap (λ (x : Table). is_our_name x.name)
      (sym (same_table old.schema.tables t table apart had there same)) ∙ foreign) in
      (there_still t had other, rows_left t had other)

  pub index_was : (i : Index) → Has new.schema.indexes i → Has old.schema.indexes i
  index_was i h = (has_filtered _ old.schema.indexes i (subst (λ (s : Schema). Has s.indexes i) d.schema h)).0

  pub any_left : (p : Index → Bool) → ((i : Index) → p i ≡ true → i.table ≢ table.tree) → list_any p old.schema.indexes ≡ true → list_any p new.schema.indexes
      ≡ true
  any_left p off h =
      let it = some_has p old.schema.indexes h in
      some_from p new.schema.indexes it.0 (subst (λ (s : Schema). Has s.indexes it.0) (sym d.schema)
      (has_kept (λ (i : Index). not (i.table == table.tree)) old.schema.indexes it.0 it.1 (stays it.0.table (off it.0 it.2)))) it.2

  sequence_stays : is_sequence table ≡ false → is_some (sequence old.schema) ≡ true → is_some (sequence new.schema) ≡ true
  sequence_stays own has =
      let it = sequence_found old.schema has _ refl in
      let at = has_found is_sequence old.schema.tables it.0 it.1 in
      found_sequence new.schema it.0 (named_left (codes "sqlite_sequence") it.0 it.1 (λ same.
      true≢false (sym at.1 ∙ ap is_sequence (same_table old.schema.tables it.0 table apart at.0 there same) ∙ own)))

  counts_was : list_any (λ (t : Table). t.is_counted) new.schema.tables ≡ true → list_any (λ (t : Table). t.is_counted) old.schema.tables ≡ true
  counts_was h = let it = some_has (λ (t : Table). t.is_counted) new.schema.tables h in some_from (λ (t : Table). t.is_counted) old.schema.tables it.0
      (was_there it.0 it.1) it.2

  pub room_left : is_sequence table ≡ false → HasRoom old.schema → HasRoom new.schema
  room_left own room = record {
    apart = subst (λ (s : Schema). IsAscending (λ a b. a.tree ≡ b.tree → ⊥) s.tables) (sym d.schema) (ascending_filter _ _ old.schema.tables room.apart);
    alone = all_from references_none new.schema.tables (λ t h. all_has references_none old.schema.tables t room.alone (was_there t h));
    counted = lacks_still _ _ _ _ room.counted counts_was (sequence_stays own);
  }
