-- A feature that is new goes in, and no rule forbids it.
use Rattle.std.proofs.Common.{◌≡◌, inl, inr, ℤ, [], ◌∷◌, true, false, ◌&&◌, cond, drop, Option, Some, None, option_map, option_and_then, refl, sym, ap, subst}
use Rattle.std.proofs.Common.{◌∙◌, eqb-true, eq-eqb}
use Rattle.std.specs.List.{list_all}
use Rattle.std.specs.FinMap.{get, insert, get-insert}
use Rattle.std.specs.Cmp.Lexicographic.{nat_list_cmp_total}
use Rattle.std.proofs.lemmas.Bool.{and_parts, and_from, or_right, both_ways, cases_Bool, false_from_ne_true, true≢false, ne_eqb}
use Rattle.sqlite.specs.declared.types.Value.TheVariants.{Int, Text as Words}
use Rattle.sqlite.specs.Order.{Row, column, bytes}
use Rattle.sqlite_trees.specs.Tree.{Trees, put_row, with_tree}
use Rattle.sqlite_schema.specs.declared.schema.Constraint.TheVariants.{Unique}
use Rattle.sqlite_schema.specs.declared.schema.Keys.TheVariants.{Enforced}
use Rattle.sqlite_schema.specs.declared.schema.Index.{Index}
use Rattle.sqlite_schema.specs.declared.schema.Schema.{Schema}
use Rattle.sqlite_schema.specs.declared.schema.Among.TheVariants.{All}
use Rattle.sqlite_schema.specs.Rules.{agree, guards, Keeps, Refers, has_parent, is_held, is_key_of, parent_key, passes}
use Rattle.sqlite_rules.specs.Lists.{Has}
use Rattle.sqlite_rules.specs.declared.error.Refusal.{Refusal}
use Rattle.sqlite_rules.specs.declared.error.Refusal.TheVariants.{Violates, Mismatch, NoRowid, BadReference, TooDeep}
use Rattle.sqlite_schema.specs.declared.schema.Constraint.TheVariants as rule
use Rattle.sqlite_rules.specs.declared.error.Rowids.TheVariants.{Chosen}
use Rattle.sqlite_rules.specs.Edit.{Edit, next_rowid, is_taken, IsRefused, Applies}
use Rattle.sqlite_rules.proofs.ListLemmas.{some_from, all_has}
use Rattle.sqlite_rules.proofs.PlaceLemmas.{next_is_free}
use Rattle.streetmap_batch.specs.Text.{Text}
use Rattle.streetmap_rows.specs.Holds.{KeyPair, pair_key, has_pair, HoldsByKey, first_key, is_first, same_text}
use Rattle.streetmap_geojson.specs.FeatureValue.{FeatureValue}
use Rattle.streetmap_ledger.specs.State.{State, Collection, with_features}
use Rattle.streetmap_rows.specs.Tables.{Roots, features, to_collections, to_key, IsOurs}
use Rattle.streetmap_rows.specs.Rows.{AreOf, feature_at, feature_cells, collection_cells, extent_in, seconds_in}
use Rattle.streetmap_grid.specs.Values.{BoxValue}
use Rattle.streetmap_rows.proofs.ColumnCasts.{whole_null}
use Rattle.sqlite_tied.specs.Compute.{everything}
use Rattle.streetmap_rows.proofs.HeldKeys.{cells_of, there, holds_put, holds_same}
use Rattle.streetmap_rows.proofs.TextKeys.{text_is, text_self, first_is, first_self, pair_is, pair_self, agree_one, agree_two, column_later}
use Rattle.streetmap_rows.proofs.TablesInSchema.{features_there}
use Rattle.streetmap_rows.proofs.RowPut.{Put, keeps_unique, refers_after}

pub parent_is : (roots : Roots) (schema : Schema) → IsOurs roots schema → parent_key schema.tables to_collections ≡ Some (to_key roots)
unfolding everything
parent_is roots schema ours = rw (ours.collections_is) refl

pub text_cell : (p : KeyPair) (o : Option FeatureValue) (r : Row) → option_map (feature_cells p) o ≡ Some (drop 1 r) → (column r 1 ≡ Words (bytes (column r 1)))
    × (column r 2 ≡ Words (bytes (column r 2)))
text_cell p None r h = absurd (cc)
text_cell p (Some d) r h =
    let cells : feature_cells p d ≡ drop 1 r = cc in
    let one : column r 1 ≡ Words p.0 = column_later r 0 ∙ ap (λ c. column c 0) (sym cells) in
    let two : column r 2 ≡ Words p.1 = column_later r 1 ∙ ap (λ c. column c 1) (sym cells) in
    (one ∙ ap (λ v. Words (bytes v)) (sym one), two ∙ ap (λ v. Words (bytes v)) (sym two))

module _ (s : State) (schema : Schema) (roots : Roots) (ours : IsOurs roots schema) (db : Trees) (of : AreOf s roots db) (p : KeyPair) (c : Collection)
    (collected : get s.collections p.0 ≡ Some c) (d : FeatureValue) (new : get c.features p.1 ≡ None) where
  abbrev pub row : Row
  row = Int (next_rowid (db roots.features)) ∷ feature_cells p d

  abbrev pub edit : Edit
  edit = record { table = features roots.features; gone = []; news = row ∷ [] }

  none_there : option_map (feature_cells p) (feature_at s p) ≡ None
  none_there = rw (collected, new)

  pub free : is_taken (db roots.features) row ≡ false
  free = next_is_free Chosen (db roots.features) (drop 1 row) of.features.table of.features.keyed

  pub new_key : (i : Index) → Has schema.indexes i → guards i (features roots.features) ≡ true → (r : Row) → Has (db roots.features) r →
      agree i.order i.columns r i.columns row ≡ false
  new_key i known on r h = false_from_ne_true _ (λ same.
      let mine = ours.on_features i known (eqb-true i.table roots.features (and_parts _ _ on).1) in
      let had = cells_of pair_key has_pair pair_is pair_self _ (db roots.features) of.features r h in
      let texts = text_cell (pair_key r) (feature_at s (pair_key r)) r had in
      let both : (same_text (bytes (column r 1)) p.0 && (same_text (bytes (column r 2)) p.1 && true)) ≡ true =
      sym (agree_two r row (bytes (column r 1)) (bytes (column r 2)) p.0 p.1 texts.0 texts.1 refl refl) ∙ (rw (mine.0, mine.1) at same) in
      let parts = and_parts _ _ both in
      let one = text_is _ _ parts.0 in
      let two = text_is _ _ (and_parts _ _ parts.1).0 in
      let at : pair_key r ≡ p = λ i. (one i, two i) in
      let clash = sym none_there ∙ ap (λ k. option_map (feature_cells k) (feature_at s k)) (sym at) ∙ had in
      absurd (cc))

  is_table : Has schema.tables (features roots.features)
  is_table = features_there roots schema ours

  -- its collection exists
  pub own_parent : list_all (has_parent schema.tables db row) ((features roots.features).references) ≡ true
  own_parent =
      let at = there first_key is_first first_is first_self _ (db roots.collections) of.collections p.0 _ (ap (option_map (collection_cells p.0)) collected) in
      let name : column at.0 1 ≡ Words p.0 = column_later at.0 0 ∙ ap (λ x. column x 0) at.4 in
      let held : is_held db (1 ∷ []) row (Some (to_key roots)) ≡ true = some_from _ (db roots.collections) at.0 at.1
      (agree_one at.0 row p.0 p.0 name refl ∙ and_from _ _ (text_self p.0) refl) in
      and_from (has_parent schema.tables db row to_collections) true (or_right false _ (rw (parent_is roots schema ours) held)) refl

  pub fits_key : list_all (is_key_of schema) ((features roots.features).references) ≡ true
  fits_key = and_from (is_key_of schema to_collections) true (rw (parent_is roots schema ours) ours.guarded) refl

  typed : list_all (passes rule.Datatype schema db (features roots.features)) (row ∷ []) ≡ true
  typed =
      rw (
        (whole_null (option_map (λ (b : BoxValue). b.x0) (extent_in d))).typed,
        (whole_null (option_map (λ (b : BoxValue). b.y0) (extent_in d))).typed,
        (whole_null (option_map (λ (b : BoxValue). b.x1) (extent_in d))).typed,
        (whole_null (option_map (λ (b : BoxValue). b.y1) (extent_in d))).typed,
        (whole_null (option_map (λ (s : ℤ × ℤ). s.0) (seconds_in d))).typed,
        (whole_null (option_map (λ (s : ℤ × ℤ). s.1) (seconds_in d))).typed,
      ) refl

  pub only_rowid : Keeps Unique schema db → (why : Refusal) → IsRefused schema Enforced db edit why → why ≡ NoRowid
  only_rowid keeps (Violates rule.Datatype) h = absurd (true≢false (sym typed ∙ h))
  only_rowid keeps (Violates rule.NotNull) h = absurd (true≢false h)
  only_rowid keeps (Violates rule.Check) h = absurd (true≢false h)
  only_rowid keeps (Violates rule.PrimaryKey) h = absurd (both_ways _ (rw free at h) refl)
  only_rowid keeps (Violates rule.Unique) h =
      absurd (h (keeps_unique schema db (features roots.features) row ours.apart is_table free (with_tree db roots.features (put_row row (db roots.features)))
      (record { rows = rw (eq-eqb roots.features roots.features refl) refl; others = λ t listed other. rw (ne_eqb t.tree roots.features other) }) new_key
      keeps))
  only_rowid keeps (Violates rule.ForeignKey) h = absurd h
  only_rowid keeps Mismatch h = absurd (true≢false h)
  only_rowid keeps NoRowid h = refl
  only_rowid keeps BadReference h = absurd (true≢false (sym (rw fits_key) ∙ h))
  only_rowid keeps TooDeep h = absurd h

  put_by : (next : Trees) → Applies schema Enforced db edit next → Put schema db (features roots.features) row ours.apart is_table free next
  put_by next made = record { rows = made.rows; others = λ t listed other. all_has _ schema.tables t made.tables listed other }

  pub refers : Refers All schema db → (next : Trees) → Applies schema Enforced db edit next → Refers All schema next
  refers was next made = refers_after schema db (features roots.features) row ours.apart is_table free next (put_by next made) was own_parent

  abbrev pub after : State
  after = with_features s p.0 c (insert c.features p.1 d)

  collections_after : (name : Text) → option_map (collection_cells name) (get after.collections name)
      ≡ option_map (collection_cells name) (get s.collections name)
  collections_after name = ap (option_map (collection_cells name)) (get-insert nat_list_cmp_total s.collections p.0
      (record c { features = insert c.features p.1 d }) name) ∙ elim (cases_Bool (same_text name p.0)) [
        | inl here ↦ rw (here, text_is name p.0 here, collected)
        | inr other ↦ rw other
      ]

  features_after : (q : KeyPair) → option_map (feature_cells q) (feature_at after q) ≡ cond (has_pair q row) (Some (drop 1 row))
      (option_map (feature_cells q) (feature_at s q))
  features_after q =
      ap (λ o. option_map (feature_cells q) (option_and_then (λ (x : Collection). get x.features q.1) o))
      (get-insert nat_list_cmp_total s.collections p.0 (record c { features = insert c.features p.1 d }) q.0) ∙ elim (cases_Bool (same_text q.0 p.0)) [
        | inl here ↦ rw here (ap (option_map (feature_cells q)) (get-insert nat_list_cmp_total c.features p.1 d q.1) ∙ elim (cases_Bool (same_text q.1 p.1)) [
          | inl also ↦ rw (also, text_is q.0 p.0 here, text_is q.1 p.1 also)
          | inr other ↦ rw (other, text_is q.0 p.0 here, collected)
        ])
        | inr other ↦ rw other
      ]

  -- what the INSERT leaves is the state with the feature
  pub of_after : (next : Trees) → next roots.features ≡ put_row row (db roots.features) → next roots.collections ≡ db roots.collections → next roots.meta
      ≡ db roots.meta → next roots.batches ≡ db roots.batches → AreOf after roots next
  of_after next rows zero two four = record {
    format = holds_same first_key is_first _ _ (db roots.meta) (next roots.meta) two (λ _. refl) of.format;
    collections = holds_same first_key is_first _ _ (db roots.collections) (next roots.collections) zero collections_after of.collections;
    batches = holds_same first_key is_first _ _ (db roots.batches) (next roots.batches) four (λ _. refl) of.batches;
    features = subst (HoldsByKey pair_key has_pair (λ q. option_map (feature_cells q) (feature_at after q))) (sym rows)
        (holds_put pair_key has_pair pair_is pair_self _ (db roots.features) of.features row _ free refl none_there features_after);
  }
