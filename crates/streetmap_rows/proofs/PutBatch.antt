-- An accepted batch goes in.
use Rattle.std.proofs.Common.{◌≡◌, inl, inr, [], ◌∷◌, true, false, ◌&&◌, cond, drop, Option, Some, None, option_map, refl, sym, ap, subst, ◌∙◌, eqb-true}
use Rattle.std.proofs.Common.{eq-eqb, ◌≤◌, ◌+◌, ℤ, pos, int_cmp, arith}
use Rattle.std.specs.FinMap.{get, insert, len, get-insert, int_cmp-IsAntisymmetric}
use Rattle.std.specs.Ordering.{is_eq}
use Rattle.sqlite_value.specs.declared.keys.Collation.TheVariants.{Binary}
use Rattle.sqlite_value.specs.Keys.{plain, first_key as key_at}
use Rattle.sqlite_value.specs.Order.{value_cmp}
use Rattle.sqlite_value.proofs.OrderLemmas.{value_cmp-Int}
use Rattle.sqlite_sql.specs.Ops.{binary}
use Rattle.sqlite_schema.specs.Rules.{equal, agree, guards, Keeps, Refers}
use Rattle.std.specs.Cmp.Lexicographic.{nat_list_cmp_total}
use Rattle.std.proofs.lemmas.Bool.{and_parts, both_ways, cases_Bool, false_from_ne_true, true≢false, ne_eqb}
use Rattle.sqlite.specs.declared.types.Value.TheVariants.{Int, Text as Words}
use Rattle.sqlite.specs.Order.{Row, column}
use Rattle.sqlite_trees.specs.Tree.{Trees, put_row, with_tree}
use Rattle.sqlite_schema.specs.declared.schema.Constraint.TheVariants.{Unique}
use Rattle.sqlite_schema.specs.declared.schema.Constraint.TheVariants as rule
use Rattle.sqlite_schema.specs.declared.schema.Keys.TheVariants.{Enforced}
use Rattle.sqlite_schema.specs.declared.schema.Index.{Index}
use Rattle.sqlite_schema.specs.declared.schema.Schema.{Schema}
use Rattle.sqlite_schema.specs.declared.schema.Among.TheVariants.{All}
use Rattle.sqlite_rules.specs.Lists.{Has}
use Rattle.sqlite_rules.specs.declared.error.Refusal.{Refusal}
use Rattle.sqlite_rules.specs.declared.error.Refusal.TheVariants.{Violates, Mismatch, NoRowid, BadReference, TooDeep}
use Rattle.sqlite_rules.specs.declared.error.Rowids.TheVariants.{Chosen}
use Rattle.sqlite_rules.specs.Edit.{Edit, next_rowid, is_taken, IsRefused, Applies}
use Rattle.sqlite_rules.proofs.ListLemmas.{all_has}
use Rattle.sqlite_rules.proofs.PlaceLemmas.{next_is_free}
use Rattle.streetmap_batch.specs.Text.{Text}
use Rattle.streetmap_rows.specs.Holds.{pair_key, has_pair, HoldsByKey, first_key, is_first, same_text}
use Rattle.streetmap_ledger.specs.State.{State, AcceptedBatch}
use Rattle.streetmap_rows.specs.Tables.{Roots, batches, IsOurs}
use Rattle.streetmap_rows.specs.Rows.{AreOf, batch_cells}
use Rattle.streetmap_rows.proofs.HeldKeys.{equal_is, cells_of, holds_put, holds_same}
use Rattle.streetmap_rows.proofs.TextKeys.{text_is, first_is, first_self, agree_one, column_later, truth_is}
use Rattle.streetmap_rows.proofs.TablesInSchema.{batches_there}
use Rattle.streetmap_rows.proofs.RowPut.{keeps_unique, refers_after}

equal_ints : (a b : ℤ) → equal Binary (Int a) (Int b) ≡ is_eq (int_cmp a b)
unfolding binary
equal_ints a b = truth_is (is_eq (value_cmp (Int a) (Int b))) ∙ ap is_eq (value_cmp-Int a b)

agree_serial : (r s : Row) (a b : ℤ) → column r 7 ≡ Int a → column s 7 ≡ Int b → agree plain (7 ∷ []) r (7 ∷ []) s ≡ (is_eq (int_cmp a b) && true)
unfolding key_at
agree_serial r s a b p q = rw (p, q, equal_ints a b)

record Reads (s : State) (r : Row) : Type 0 where
  kept : AcceptedBatch
  is : get s.keys (first_key r) ≡ Some kept
  one : column r 1 ≡ Words (first_key r)
  seven : column r 7 ≡ Int (pos kept.serial)

reads : (s : State) (r : Row) (o : Option AcceptedBatch) → get s.keys (first_key r) ≡ o → option_map (batch_cells (first_key r)) o ≡ Some (drop 1 r) → Reads s r
reads s r None is h = absurd (cc)
reads s r (Some k) is h =
    let cells : batch_cells (first_key r) k ≡ drop 1 r = cc in
    record { kept = k; is = is; one = column_later r 0 ∙ ap (λ x. column x 0) (sym cells); seven = column_later r 6 ∙ ap (λ x. column x 6) (sym cells) }

module _ (s : State) (schema : Schema) (roots : Roots) (ours : IsOurs roots schema) (db : Trees) (of : AreOf s roots db) (key : Text) (kept : AcceptedBatch)
    (new : get s.keys key ≡ None)
    (next_serial : kept.serial ≡ len s.keys + 1) (counted : (q : Text) (k : AcceptedBatch) → get s.keys q ≡ Some k → k.serial ≤ len s.keys) where
  abbrev pub row : Row
  row = Int (next_rowid (db roots.batches)) ∷ batch_cells key kept

  abbrev pub edit : Edit
  edit = record { table = batches roots.batches; gone = []; news = row ∷ [] }

  pub free : is_taken (db roots.batches) row ≡ false
  free = next_is_free Chosen (db roots.batches) (drop 1 row) of.batches.table of.batches.keyed

  no_key : (r : Row) → Has (db roots.batches) r → Reads s r → same_text (first_key r) key ≡ true → ⊥
  no_key r h it same =
      let clash = sym new ∙ ap (get s.keys) (sym (text_is (first_key r) key same)) ∙ it.is in absurd (cc)

  pub new_key : (i : Index) → Has schema.indexes i → guards i (batches roots.batches) ≡ true → (r : Row) → Has (db roots.batches) r →
      agree i.order i.columns r i.columns row ≡ false
  new_key i known on r h =
      let it = reads s r (get s.keys (first_key r)) refl (cells_of first_key is_first first_is first_self _ (db roots.batches) of.batches r h) in
      elim (ours.on_batches i known (eqb-true i.table roots.batches (and_parts _ _ on).1)) [
        | inl mine ↦ rw (mine.0, mine.1) (agree_one r row (first_key r) key it.one refl ∙ ap (λ b. b && true) (false_from_ne_true _ (no_key r h it)))
        | inr mine ↦ rw (mine.0, mine.1) (agree_serial r row (pos it.kept.serial) (pos kept.serial) it.seven refl
            ∙ ap (λ b. b && true) (false_from_ne_true _ (λ same.
            let alike : pos it.kept.serial ≡ pos kept.serial = int_cmp-IsAntisymmetric _ _ (equal_is _ same) in
            let n : it.kept.serial ≡ kept.serial = cc in
            omega (arith, n, next_serial, counted (first_key r) it.kept it.is))))
      ]

  is_table : Has schema.tables (batches roots.batches)
  is_table = batches_there roots schema ours

  pub only_rowid : Keeps Unique schema db → (why : Refusal) → IsRefused schema Enforced db edit why → why ≡ NoRowid
  only_rowid keeps (Violates rule.Datatype) h = absurd (true≢false h)
  only_rowid keeps (Violates rule.NotNull) h = absurd (true≢false h)
  only_rowid keeps (Violates rule.Check) h = absurd (true≢false h)
  only_rowid keeps (Violates rule.PrimaryKey) h = absurd (both_ways _ (rw free at h) refl)
  only_rowid keeps (Violates rule.Unique) h =
      absurd (h (keeps_unique schema db (batches roots.batches) row ours.apart is_table free (with_tree db roots.batches (put_row row (db roots.batches)))
      (record { rows = rw (eq-eqb roots.batches roots.batches refl) refl; others = λ t listed other. rw (ne_eqb t.tree roots.batches other) }) new_key
      keeps))
  only_rowid keeps (Violates rule.ForeignKey) h = absurd h
  only_rowid keeps Mismatch h = absurd (true≢false h)
  only_rowid keeps NoRowid h = refl
  only_rowid keeps BadReference h = absurd (true≢false h)
  only_rowid keeps TooDeep h = absurd h

  pub refers : Refers All schema db → (next : Trees) → Applies schema Enforced db edit next → Refers All schema next
  refers was next made = refers_after schema db (batches roots.batches) row ours.apart is_table free next
      (record { rows = made.rows; others = λ t listed other. all_has _ schema.tables t made.tables listed other }) was refl

  abbrev pub after : State
  after = record s { keys = insert s.keys key kept }

  batches_after : (q : Text) → option_map (batch_cells q) (get after.keys q) ≡ cond (is_first q row) (Some (drop 1 row))
      (option_map (batch_cells q) (get s.keys q))
  batches_after q = ap (option_map (batch_cells q)) (get-insert nat_list_cmp_total s.keys key kept q) ∙ elim (cases_Bool (same_text q key)) [
    | inl here ↦ rw (here, text_is q key here)
    | inr other ↦ rw other
  ]

  pub of_after : (next : Trees) → next roots.batches ≡ put_row row (db roots.batches) → next roots.collections ≡ db roots.collections → next roots.meta
      ≡ db roots.meta → next roots.features ≡ db roots.features → AreOf after roots next
  of_after next rows zero two seven = record {
    format = holds_same first_key is_first _ _ (db roots.meta) (next roots.meta) two (λ _. refl) of.format;
    collections = holds_same first_key is_first _ _ (db roots.collections) (next roots.collections) zero (λ _. refl) of.collections;
    batches = subst (HoldsByKey first_key is_first (λ q. option_map (batch_cells q) (get after.keys q))) (sym rows)
        (holds_put first_key is_first first_is first_self _ (db roots.batches) of.batches row _ free refl (rw new refl) batches_after);
    features = holds_same pair_key has_pair _ _ (db roots.features) (next roots.features) seven (λ _. refl) of.features;
  }
