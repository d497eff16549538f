-- A collection that is new goes in.
use Rattle.std.proofs.Common.{◌≡◌, inl, inr, [], ◌∷◌, true, false, ◌&&◌, cond, drop, Option, Some, None, option_map, refl, sym, ap, subst, ◌∙◌, eqb-true}
use Rattle.std.proofs.Common.{eq-eqb}
use Rattle.std.specs.Prelude.{option_and_then}
use Rattle.std.specs.List.{list_all}
use Rattle.std.specs.FinMap.{get, empty, get-insert, get-empty}
use Rattle.std.specs.Cmp.Lexicographic.{nat_list_cmp_total}
use Rattle.std.proofs.lemmas.Bool.{and_parts, both_ways, cases_Bool, false_from_ne_true, true≢false, ne_eqb}
use Rattle.sqlite.specs.declared.types.Value.TheVariants.{Int, Text as Words}
use Rattle.sqlite.specs.Order.{Row, column, bytes}
use Rattle.sqlite.specs.Values.{or_null}
use Rattle.sqlite_trees.specs.Tree.{Trees, put_row, with_tree}
use Rattle.sqlite_schema.specs.declared.schema.Constraint.TheVariants.{Unique}
use Rattle.sqlite_schema.specs.declared.schema.Constraint.TheVariants as rule
use Rattle.sqlite_schema.specs.declared.schema.Keys.TheVariants.{Enforced}
use Rattle.sqlite_schema.specs.declared.schema.Index.{Index}
use Rattle.sqlite_schema.specs.declared.schema.Schema.{Schema}
use Rattle.sqlite_schema.specs.declared.schema.Among.TheVariants.{All}
use Rattle.sqlite_schema.specs.Rules.{agree, guards, passes, Keeps, Refers}
use Rattle.sqlite_rules.specs.Lists.{Has}
use Rattle.sqlite_rules.specs.declared.error.Refusal.{Refusal}
use Rattle.sqlite_rules.specs.declared.error.Refusal.TheVariants.{Violates, Mismatch, NoRowid, BadReference, TooDeep}
use Rattle.sqlite_rules.specs.declared.error.Rowids.TheVariants.{Chosen}
use Rattle.sqlite_rules.specs.Edit.{Edit, next_rowid, is_taken, IsRefused, Applies}
use Rattle.sqlite_rules.proofs.ListLemmas.{all_has}
use Rattle.sqlite_rules.proofs.PlaceLemmas.{next_is_free}
use Rattle.streetmap_batch.specs.Text.{Text}
use Rattle.streetmap_rows.specs.Holds.{KeyPair, pair_key, has_pair, HoldsByKey, first_key, is_first, same_text}
use Rattle.streetmap_ledger.specs.State.{State, Collection, opened}
use Rattle.streetmap_rows.specs.Tables.{Roots, collections, IsOurs}
use Rattle.streetmap_rows.specs.Rows.{AreOf, feature_at, feature_cells, collection_cells}
use Rattle.streetmap_rows.proofs.ColumnCasts.{word_null}
use Rattle.streetmap_rows.proofs.HeldKeys.{cells_of, holds_put, holds_same}
use Rattle.streetmap_rows.proofs.TextKeys.{text_is, first_is, first_self, agree_one, column_later}
use Rattle.streetmap_rows.proofs.TablesInSchema.{collections_there}
use Rattle.streetmap_rows.proofs.RowPut.{keeps_unique, refers_after}

pub name_cell : (name : Text) (o : Option Collection) (r : Row) → option_map (collection_cells name) o ≡ Some (drop 1 r) → column r 1
    ≡ Words (bytes (column r 1))
name_cell name None r h = absurd (cc)
name_cell name (Some c) r h =
    let cells : collection_cells name c ≡ drop 1 r = cc in
    let one : column r 1 ≡ Words name = column_later r 0 ∙ ap (λ x. column x 0) (sym cells) in one ∙ ap (λ v. Words (bytes v)) (sym one)

module _ (s : State) (schema : Schema) (roots : Roots) (ours : IsOurs roots schema) (db : Trees) (of : AreOf s roots db) (name title : Text)
    (time : Option Text) (new : get s.collections name ≡ None) where
  abbrev pub row : Row
  row = Int (next_rowid (db roots.collections)) ∷ Words name ∷ Words title ∷ or_null Words time ∷ []

  abbrev pub edit : Edit
  edit = record { table = collections roots.collections; gone = []; news = row ∷ [] }

  pub free : is_taken (db roots.collections) row ≡ false
  free = next_is_free Chosen (db roots.collections) (drop 1 row) of.collections.table of.collections.keyed

  pub new_key : (i : Index) → Has schema.indexes i → guards i (collections roots.collections) ≡ true → (r : Row) → Has (db roots.collections) r →
      agree i.order i.columns r i.columns row ≡ false
  new_key i known on r h = false_from_ne_true _ (λ same.
      let mine = ours.on_collections i known (eqb-true i.table roots.collections (and_parts _ _ on).1) in
      let had = cells_of first_key is_first first_is first_self _ (db roots.collections) of.collections r h in
      let one = name_cell (first_key r) (get s.collections (first_key r)) r had in
      let both : (same_text (bytes (column r 1)) name && true) ≡ true = sym (agree_one r row (bytes (column r 1)) name one refl)
      ∙ (rw (mine.0, mine.1) at same) in
      let at = text_is (bytes (column r 1)) name (and_parts (same_text (bytes (column r 1)) name) true both).0 in
      let clash = sym (ap (option_map (collection_cells name)) new) ∙ ap (λ k. option_map (collection_cells k) (get s.collections k)) (sym at) ∙ had in
      absurd (cc))

  is_table : Has schema.tables (collections roots.collections)
  is_table = collections_there roots schema ours

  typed : list_all (passes rule.Datatype schema db (collections roots.collections)) (row ∷ []) ≡ true
  typed = rw ((word_null time).typed) refl

  pub only_rowid : Keeps Unique schema db → (why : Refusal) → IsRefused schema Enforced db edit why → why ≡ NoRowid
  only_rowid keeps (Violates rule.Datatype) h = absurd (true≢false (sym typed ∙ h))
  only_rowid keeps (Violates rule.NotNull) h = absurd (true≢false h)
  only_rowid keeps (Violates rule.Check) h = absurd (true≢false h)
  only_rowid keeps (Violates rule.PrimaryKey) h = absurd (both_ways _ (rw free at h) refl)
  only_rowid keeps (Violates rule.Unique) h =
      absurd (h (keeps_unique schema db (collections roots.collections) row ours.apart is_table free
      (with_tree db roots.collections (put_row row (db roots.collections))) (record {
        rows =
            rw (eq-eqb roots.collections roots.collections refl) refl;
        others = λ t listed other. rw (ne_eqb t.tree roots.collections other);
      }) new_key
      keeps))
  only_rowid keeps (Violates rule.ForeignKey) h = absurd h
  only_rowid keeps Mismatch h = absurd (true≢false h)
  only_rowid keeps NoRowid h = refl
  only_rowid keeps BadReference h = absurd (true≢false h)
  only_rowid keeps TooDeep h = absurd h

  pub refers : Refers All schema db → (next : Trees) → Applies schema Enforced db edit next → Refers All schema next
  refers was next made = refers_after schema db (collections roots.collections) row ours.apart is_table free next
      (record { rows = made.rows; others = λ t listed other. all_has _ schema.tables t made.tables listed other }) was refl

  abbrev pub after : State
  after = opened s name title time

  collections_after : (q : Text) → option_map (collection_cells q) (get after.collections q)
      ≡ cond (is_first q row) (Some (drop 1 row)) (option_map (collection_cells q) (get s.collections q))
  collections_after q = ap (option_map (collection_cells q)) (get-insert nat_list_cmp_total s.collections name
      (record { title = title; time = time; features = empty }) q) ∙ elim (cases_Bool (same_text q name)) [
        | inl here ↦ rw (here, text_is q name here)
        | inr other ↦ rw other
      ]

  pub features_same : (q : KeyPair) → feature_at after q ≡ feature_at s q
  features_same q =
      ap (λ o. option_and_then (λ (x : Collection). get x.features q.1) o) (get-insert nat_list_cmp_total s.collections name
      (record { title = title; time = time; features = empty }) q.0) ∙ elim (cases_Bool (same_text q.0 name)) [
        | inl here ↦ rw (here, text_is q.0 name here, new, get-empty _ q.1)
        | inr other ↦ rw other
      ]

  pub of_after : (next : Trees) → next roots.collections ≡ put_row row (db roots.collections) → next roots.meta ≡ db roots.meta → next roots.batches
      ≡ db roots.batches → next roots.features ≡ db roots.features → AreOf after roots next
  of_after next rows two four seven = record {
    format = holds_same first_key is_first _ _ (db roots.meta) (next roots.meta) two (λ _. refl) of.format;
    collections = subst (HoldsByKey first_key is_first (λ q. option_map (collection_cells q) (get after.collections q))) (sym rows)
        (holds_put first_key is_first first_is first_self _ (db roots.collections) of.collections row _ free refl (rw new refl) collections_after);
    batches = holds_same first_key is_first _ _ (db roots.batches) (next roots.batches) four (λ _. refl) of.batches;
    features = holds_same pair_key has_pair _ _ (db roots.features) (next roots.features) seven (λ q. ap (option_map (feature_cells q)) (features_same q))
        of.features;
  }
