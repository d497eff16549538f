-- What the DELETE of an existing feature does, and that it is not refused.
use Rattle.std.proofs.Common.{nat_le, ◌^◌, eq-eqb, ◌≡◌, inl, inr, ℕ, ℤ, List, [], ◌∷◌, map, Bool, true, false, ◌&&◌, cond, drop, find, Option, Some, None}
use Rattle.std.proofs.Common.{option_map, refl, sym, ap, ap₂, subst, ◌∙◌}
use Rattle.std.specs.Prelude.{option_and_then}
use Rattle.std.specs.List.{list_all}
use Rattle.std.specs.Option.{option_to_list}
use Rattle.std.specs.FinMap.{get, remove, get-remove, get-insert}
use Rattle.std.specs.Cmp.{eq_by_cmp_equiv}
use Rattle.std.specs.Cmp.Lexicographic.{nat_list_cmp_total}
use Rattle.std.proofs.lemmas.Bool.{cases_Bool, true≢false, ne_eqb, not-true}
use Rattle.sqlite.specs.declared.types.Value.TheVariants.{Null, Text as Words}
use Rattle.sqlite.specs.Order.{Row, column, bytes}
use Rattle.sqlite.specs.Term.{col, holds}
use Rattle.sqlite.specs.Query.{Query}
use Rattle.sqlite.specs.Effect.{Answers}
use Rattle.sqlite_trees.specs.Tree.{Trees, rowid, without_rowid, with_tree}
use Rattle.sqlite_schema.specs.declared.schema.Schema.{Schema}
use Rattle.sqlite_schema.specs.declared.schema.Table.{Table}
use Rattle.sqlite_rules.specs.Lists.{Has}
use Rattle.sqlite_rules.specs.Edit.{id_in, Edit, IsRefused, Applies, taken_by}
use Rattle.sqlite_rules.specs.Calls.{ids_of}
use Rattle.streetmap_batch.specs.Text.{Text}
use Rattle.streetmap_rows.specs.Holds.{KeyPair, pair_key, has_pair, HoldsByKey, same_text, first_key, is_first}
use Rattle.streetmap_geojson.specs.FeatureValue.{FeatureValue}
use Rattle.streetmap_ledger.specs.State.{State, Collection, with_features}
use Rattle.streetmap_rows.specs.Rows.{AreOf, feature_at, feature_cells, collection_cells}
use Rattle.streetmap_rows.specs.Queries.{over, program}
use Rattle.streetmap_rows.proofs.Compiles.{both}
use Rattle.streetmap_rows.proofs.TablesInSchema.{features_there}
use Rattle.streetmap_rows.proofs.OneRowChosen.{chosen, staged}
use Rattle.streetmap_rows.proofs.HeldKeys.{cells_of, there, filter_one, find_own, holds_same, holds_cut}
use Rattle.streetmap_rows.proofs.TextKeys.{pair_is, pair_self, equal_texts, text_is}
use Rattle.streetmap_rows.proofs.PutFeature.{text_cell}
use Rattle.sqlite_schema.specs.declared.schema.Constraint.TheVariants.{Unique}
use Rattle.sqlite_schema.specs.declared.schema.Constraint.TheVariants as rule
use Rattle.sqlite_schema.specs.declared.schema.Keys.TheVariants.{Enforced}
use Rattle.sqlite_schema.specs.declared.schema.Among.TheVariants.{All}
use Rattle.sqlite_schema.specs.declared.schema.Reference.{Reference}
use Rattle.sqlite_schema.specs.Names.{same_name}
use Rattle.sqlite_schema.specs.Rules.{Keeps, Refers}
use Rattle.sqlite_rules.specs.declared.error.Refusal.{Refusal}
use Rattle.sqlite_rules.specs.declared.error.Refusal.TheVariants.{Violates, Mismatch, NoRowid, BadReference, TooDeep}
use Rattle.sqlite_rules.specs.Action.{works}
use Rattle.sqlite_rules.proofs.ListLemmas.{all_has, test_has}
use Rattle.streetmap_rows.specs.Tables.{Roots, IsOurs, features, features_name}
use Rattle.streetmap_rows.proofs.RowsCut.{Cut, unique_after, refers_after, none_refers, no_work}

abbrev pub keys_of : KeyPair → Row
keys_of p = Words p.0 ∷ Words p.1 ∷ []

abbrev pub delete_query : ℕ → Query
delete_query tree = over tree both (col 1 0 ∷ [])

abbrev pub is_both : KeyPair → Row → Bool
is_both p r = list_all (holds (keys_of p ∷ r ∷ [])) both

module _ (s : State) (roots : Roots) (db : Trees) (of : AreOf s roots db) (p : KeyPair) where
  pub both_is : (r : Row) → Has (db roots.features) r → is_both p r ≡ has_pair p r
  both_is r h =
      let texts = text_cell (pair_key r) (feature_at s (pair_key r)) r (cells_of pair_key has_pair pair_is pair_self _ (db roots.features) of.features r h) in
      let flips = (eq_by_cmp_equiv nat_list_cmp_total).symm in
      rw (texts.0, texts.1, equal_texts (bytes (column r 1)) p.0, equal_texts (bytes (column r 2)) p.1)
      (ap₂ (λ a b. a && (b && true)) (flips (bytes (column r 1)) p.0) (flips (bytes (column r 2)) p.1)
      ∙ last (same_text p.0 (bytes (column r 1))) (same_text p.1 (bytes (column r 2))))
    where
      last : (a b : Bool) → (a && (b && true)) ≡ (a && b)
      last true true = refl
      last true false = refl
      last false b = refl

  -- what the query of the DELETE gives
  pub given : (schema : Schema) → nat_le (2 ^ 31) roots.features ≡ false → (rows : List Row) →
      Answers (record { schema = schema; trees = db }) (program (delete_query roots.features)) (keys_of p) rows → rows
      ≡ map (λ r. rowid r ∷ []) (option_to_list (find (has_pair p) (db roots.features)))
  given schema low rows h =
      chosen db roots.features both (col 1 0 ∷ []) (keys_of p) (staged db roots.features both (keys_of p) low) (has_pair p) both_is
      (find (has_pair p) (db roots.features)) (filter_one pair_key has_pair pair_is pair_self _ (db roots.features) of.features p) rows (h.answer Null)
      ∙ shows (find (has_pair p) (db roots.features))
    where
      shows : (o : Option Row) → option_to_list (option_map (λ r. rowid r ∷ []) o) ≡ map (λ r. rowid r ∷ []) (option_to_list o)
      shows None = refl
      shows (Some r) = refl

module _ (s : State) (schema : Schema) (roots : Roots) (ours : IsOurs roots schema) (db : Trees) (of : AreOf s roots db) (p : KeyPair) (c : Collection)
    (collected : get s.collections p.0 ≡ Some c) (d : FeatureValue) (is : get c.features p.1 ≡ Some d) where
  at_place : feature_at s p ≡ Some d
  at_place = rw (collected, is) refl

  pub the_row : (r : Row) × Has (db roots.features) r × (pair_key r ≡ p) × (has_pair p r ≡ true) × (drop 1 r ≡ feature_cells p d)
  the_row = there pair_key has_pair pair_is pair_self _ (db roots.features) of.features p _ (ap (option_map (feature_cells p)) at_place)

  pub found_row : find (has_pair p) (db roots.features) ≡ Some the_row.0
  found_row = subst (λ k. find (has_pair k) (db roots.features) ≡ Some the_row.0) the_row.2
      (find_own pair_key has_pair pair_is pair_self (db roots.features) the_row.0 of.features.apart the_row.1)

  abbrev pub id : ℤ
  id = id_in (rowid the_row.0)

  pub gone_is : nat_le (2 ^ 31) roots.features ≡ false → (rows : List Row) → Answers (record { schema = schema; trees = db })
      (program (delete_query roots.features)) (keys_of p) rows → ids_of rows ≡ id ∷ []
  gone_is low rows h = ap ids_of (given s roots db of p schema low rows h ∙ ap (λ o. map (λ r. rowid r ∷ []) (option_to_list o)) found_row)

  abbrev pub edit : Edit
  edit = record { table = features roots.features; gone = id ∷ []; news = [] }

  is_table : Has schema.tables (features roots.features)
  is_table = features_there roots schema ours

  pub unnamed : (t : Table) (ref : Reference) → Has schema.tables t → Has t.references ref → same_name features_name ref.parent ≡ false
  unnamed t ref listed known = not-true _ (test_has _ t.references ref (all_has _ schema.tables t ours.alone listed) known)

  pub never : Keeps Unique schema db → (why : Refusal) → IsRefused schema Enforced db edit why → ⊥
  never keeps (Violates rule.Datatype) h = true≢false h
  never keeps (Violates rule.NotNull) h = true≢false h
  never keeps (Violates rule.Check) h = true≢false h
  never keeps (Violates rule.PrimaryKey) h = true≢false h
  never keeps (Violates rule.Unique) h = h (unique_after schema db (features roots.features) ours.apart is_table unnamed id
      (with_tree db roots.features (without_rowid id (db roots.features))) (record {
        rows = rw (eq-eqb roots.features roots.features refl) refl;
        others =
            λ t listed other. rw (ne_eqb t.tree roots.features other);
      }) keeps)
  never keeps (Violates rule.ForeignKey) h = h
  never keeps Mismatch h = true≢false h
  never keeps NoRowid h = true≢false h
  never keeps BadReference h = true≢false (sym (rw (none_refers schema db (features roots.features) ours.apart is_table unnamed)) ∙ h)
  never keeps TooDeep h = h

  pub idle : works schema Enforced 0 roots.features (taken_by db edit) [] ≡ []
  idle = no_work schema db (features roots.features) ours.apart is_table unnamed Enforced 0 (taken_by db edit) []

  cut_by : (next : Trees) → Applies schema Enforced db edit next → Cut schema db (features roots.features) ours.apart is_table unnamed id next
  cut_by next made = record { rows = made.rows; others = λ t listed other. all_has _ schema.tables t made.tables listed other }

  pub refers : Refers All schema db → (next : Trees) → Applies schema Enforced db edit next → Refers All schema next
  refers was next made = refers_after schema db (features roots.features) ours.apart is_table unnamed id next (cut_by next made) was

  abbrev pub after : State
  after = with_features s p.0 c (remove c.features p.1)

  collections_after : (name : Text) → option_map (collection_cells name) (get after.collections name)
      ≡ option_map (collection_cells name) (get s.collections name)
  collections_after name = ap (option_map (collection_cells name)) (get-insert nat_list_cmp_total s.collections p.0
      (record c { features = remove c.features p.1 }) name) ∙ elim (cases_Bool (same_text name p.0)) [
        | inl here ↦ rw (here, text_is name p.0 here, collected)
        | inr other ↦ rw other
      ]

  features_after : (q : KeyPair) → option_map (feature_cells q) (feature_at after q) ≡ cond (same_text q.0 p.0 && same_text q.1 p.1) None
      (option_map (feature_cells q) (feature_at s q))
  features_after q =
      ap (λ o. option_map (feature_cells q) (option_and_then (λ (x : Collection). get x.features q.1) o))
      (get-insert nat_list_cmp_total s.collections p.0 (record c { features = remove c.features p.1 }) q.0) ∙ elim (cases_Bool (same_text q.0 p.0)) [
        | inl here ↦ rw here (ap (option_map (feature_cells q)) (get-remove nat_list_cmp_total c.features p.1 q.1) ∙ elim (cases_Bool (same_text q.1 p.1)) [
          | inl also ↦ rw also
          | inr other ↦ rw (other, text_is q.0 p.0 here, collected)
        ])
        | inr other ↦ rw other
      ]

  pub of_after : (next : Trees) → next roots.features ≡ without_rowid id (db roots.features) → next roots.collections ≡ db roots.collections → next roots.meta
      ≡ db roots.meta → next roots.batches ≡ db roots.batches → AreOf after roots next
  of_after next rows zero two four = record {
    format = holds_same first_key is_first _ _ (db roots.meta) (next roots.meta) two (λ _. refl) of.format;
    collections = holds_same first_key is_first _ _ (db roots.collections) (next roots.collections) zero collections_after of.collections;
    batches = holds_same first_key is_first _ _ (db roots.batches) (next roots.batches) four (λ _. refl) of.batches;
    features = subst (HoldsByKey pair_key has_pair (λ q. option_map (feature_cells q) (feature_at after q))) (sym rows)
        (holds_cut pair_key has_pair pair_is pair_self _ (db roots.features) of.features the_row.0 _ the_row.1
        (λ q. features_after q ∙ ap (λ (x : KeyPair). cond (same_text q.0 x.0 && same_text q.1 x.1) None (option_map (feature_cells q) (feature_at s q)))
        (sym the_row.2)));
  }
