-- Features that one statement puts in: if it did, each was new, and their rows are one after the
-- other.
use Rattle.std.proofs.Common.{◌≡◌, List, [], ◌∷◌, true, false, ◌&&◌, cond, not, map, Option, Some, None, option_map, refl, sym, ap, subst, ◌∙◌, eq-eqb}
use Rattle.std.proofs.Common.{Ordering, Less, Equal, Greater, true≢false}
use Rattle.std.specs.List.{AllByRecursion}
use Rattle.std.specs.Ordering.{is_eq, is_ne}
use Rattle.std.specs.FinMap.{get, insert, get-insert}
use Rattle.std.specs.Cmp.Lexicographic.{nat_list_cmp_total}
use Rattle.std.proofs.lemmas.Bool.{and_parts, and_from, both_ways, false_from_ne_true, ne_eqb, not_from_false, not-true}
use Rattle.sqlite.specs.declared.types.Value.TheVariants.{Null, Int, Text as Words}
use Rattle.sqlite.specs.Order.{Row, column}
use Rattle.sqlite.specs.Effect.{IsDatabase}
use Rattle.sqlite_value.specs.Order.{value_cmp}
use Rattle.sqlite_value.specs.Keys.{plain}
use Rattle.sqlite_trees.specs.Tree.{Trees, put_row, with_tree, rowid}
use Rattle.sqlite_sql.specs.Ops.{binary}
use Rattle.sqlite_catalog.specs.Listing.{automatic}
use Rattle.sqlite_schema.specs.declared.schema.Constraint.TheVariants.{Unique}
use Rattle.sqlite_schema.specs.declared.schema.Schema.{Schema}
use Rattle.sqlite_schema.specs.Rules.{agree, clashes, differ, guards}
use Rattle.sqlite_rules.specs.Lists.{Has}
use Rattle.sqlite_rules.specs.declared.error.Rowids.TheVariants.{Chosen}
use Rattle.sqlite_rules.specs.Edit.{next_rowid, numbered, is_taken, are_fresh, put_all}
use Rattle.sqlite_rules.proofs.ListLemmas.{all_has, test_has, some_from}
use Rattle.sqlite_rules.proofs.TableLemmas.{put_all_keeps, has_put, int_is}
use Rattle.streetmap_geojson.specs.FeatureValue.{FeatureValue}
use Rattle.streetmap_geojson.specs.FeatureInvariant.{IsFeature}
use Rattle.streetmap_batch.specs.Text.{Text}
use Rattle.streetmap_ledger.specs.State.{State, Collection, with_features}
use Rattle.streetmap_rows.specs.Holds.{pair_key, has_pair}
use Rattle.streetmap_rows.specs.Tables.{Roots, features, IsOurs}
use Rattle.streetmap_rows.specs.Rows.{AreOf, feature_at, feature_cells}
use Rattle.streetmap_rows.specs.Representations.{CanBeRead}
use Rattle.streetmap_rows.specs.FeatureRows.{Entry, PutsEach}
use Rattle.streetmap_rows.proofs.HeldKeys.{there, holds_same}
use Rattle.streetmap_rows.proofs.TextKeys.{pair_is, pair_self, text_self, agree_two, column_later, truth_is}
use Rattle.streetmap_rows.proofs.Readable.{insert_read}
use Rattle.streetmap_rows.proofs.TablesInSchema as placing
use Rattle.streetmap_rows.proofs.PutFeature as feature

-- a row whose rowid is not yet known
abbrev pub bare : Text → Entry → Row
bare name e = Null ∷ feature_cells (name, e.0) e.1

-- the rows as they are put in
abbrev pub news_of : Text → List Entry → List Row → List Row
news_of name es rows = numbered Chosen rows (map (bare name) es)

-- two rows with one key are one
abbrev pub AreApart : List Row → Type 0
AreApart rows = (a b : Row) → Has rows a → Has rows b → agree plain (1 ∷ 2 ∷ []) a (1 ∷ 2 ∷ []) b ≡ true → differ (rowid a) (rowid b) ≡ false

other_is : (o : Ordering) → is_eq o ≡ false → is_ne o ≡ true
other_is Less h = refl
other_is Equal h = absurd (true≢false h)
other_is Greater h = refl

module _ (roots : Roots) (schema : Schema) (ours : IsOurs roots schema) (name : Text) where
  -- the key of the features has its index, which no two rows pass with one key
  pub are_apart : (db : Trees) → IsDatabase (record { schema = schema; trees = db }) → AreApart (db roots.features)
  are_apart db sound a b has_a has_b same =
      let listed = placing.features_there roots schema ours in
      let index = all_has _ schema.tables (features roots.features) sound.lists.guarded listed 0 (1 ∷ 2 ∷ []) refl in
      let i = automatic (features roots.features) 0 (1 ∷ 2 ∷ []) index.0 in
      let on : guards i (features roots.features) ≡ true = eq-eqb roots.features roots.features refl in
      let passed = all_has _ (db roots.features) b (all_has _ schema.tables (features roots.features) (sound.obeys.rules Unique) listed) has_b in
      let alone : clashes plain (1 ∷ 2 ∷ []) (db roots.features) b ≡ false =
      (let at = test_has (λ x. not (guards x (features roots.features) && clashes x.order x.columns (db roots.features) b)) schema.indexes i passed index.1 in
      not-true _ (rw on at at)) in
      false_from_ne_true _ (λ differs. both_ways _ alone (some_from (λ other. agree plain (1 ∷ 2 ∷ []) other (1 ∷ 2 ∷ []) b && differ (rowid other) (rowid b))
      (db roots.features) a has_a (and_from _ _ same differs)))

  module _ (s : State) (db : Trees) (of : AreOf s roots db) (c : Collection) (collected : get s.collections name ≡ Some c) (e : Entry) where
    abbrev row : Row
    row = Int (next_rowid (db roots.features)) ∷ feature_cells (name, e.0) e.1

    -- rowids that are not the same differ
    differs : (r : Row) → Has (db roots.features) r → is_taken (db roots.features) row ≡ false → differ (rowid r) (rowid row) ≡ true
    unfolding binary
    differs r h free =
        let id = int_is (rowid r) (all_has _ (db roots.features) r of.features.keyed h) in
        let apart : is_eq (value_cmp (rowid r) (rowid row)) ≡ false = false_from_ne_true _
        (λ same. both_ways _ free (some_from (λ x. is_eq (value_cmp (rowid x) (rowid row))) (db roots.features) r h same)) in
        rw id (truth_is _ ∙ other_is _ (rw id at apart))

    -- what the final rows have at no other key is new
    pub was_new : (final : List Row) → AreApart final → ((r : Row) → Has (put_row row (db roots.features)) r → Has final r) → is_taken (db roots.features) row
        ≡ false → get c.features e.0 ≡ None
    was_new final apart kept free = go (get c.features e.0) refl
      where
        go : (o : Option FeatureValue) → get c.features e.0 ≡ o → get c.features e.0 ≡ None
        go None is = is
        go (Some d) is =
            let found : option_map (feature_cells (name, e.0)) (feature_at s (name, e.0)) ≡ Some (feature_cells (name, e.0) d) = rw (collected, is) refl in
            let at = there pair_key has_pair pair_is pair_self _ (db roots.features) of.features (name, e.0) _ found in
            let one : column at.0 1 ≡ Words name = column_later at.0 0 ∙ ap (λ x. column x 0) at.4 in
            let two : column at.0 2 ≡ Words e.0 = column_later at.0 1 ∙ ap (λ x. column x 1) at.4 in
            let same : agree plain (1 ∷ 2 ∷ []) at.0 (1 ∷ 2 ∷ []) row ≡ true = agree_two at.0 row name e.0 name e.0 one two refl refl
            ∙ and_from _ _ (text_self name) (and_from _ _ (text_self e.0) refl) in
            let held = apart at.0 row (kept at.0 (put_all_keeps (row ∷ []) (db roots.features) at.0 (and_from _ _ (not_from_false _ free) refl) at.1))
            (kept row (has_put row (db roots.features))) same in
            absurd (both_ways _ held (differs at.0 at.1 free))

  -- what the statement leaves
  pub record ArePut (db next : Trees) (es : List Entry) : Type 0 where
    pub fresh : are_fresh (db roots.features) (news_of name es (db roots.features)) ≡ true
    pub rows : next roots.features ≡ put_all (db roots.features) (news_of name es (db roots.features))
    pub collections : next roots.collections ≡ db roots.collections
    pub meta : next roots.meta ≡ db roots.meta
    pub batches : next roots.batches ≡ db roots.batches

  pub record Leads (s : State) (next : Trees) (es : List Entry) : Type 0 where
    pub state : State
    pub puts : PutsEach name es s state
    pub of : AreOf state roots next
    pub readable : CanBeRead state

  pub leads : (es : List Entry) (s : State) (db next : Trees) → AreOf s roots db → CanBeRead s → (c : Collection) → get s.collections name ≡ Some c →
      AllByRecursion (λ (e : Entry). IsFeature e.1) es
      → ArePut db next es → AreApart (next roots.features) → Leads s next es
  leads [] s db next of read c collected fine put apart = record {
    state = s;
    puts = refl;
    of = record {
      format = holds_same _ _ _ _ (db roots.meta) (next roots.meta) put.meta (λ _. refl) of.format;
      collections = holds_same _ _ _ _ (db roots.collections) (next roots.collections) put.collections (λ _. refl) of.collections;
      batches = holds_same _ _ _ _ (db roots.batches) (next roots.batches) put.batches (λ _. refl) of.batches;
      features = holds_same _ _ _ _ (db roots.features) (next roots.features) put.rows (λ _. refl) of.features;
    };
    readable = read;
  }
  leads (e ∷ es) s db next of read c collected fine put apart =
      let new = row s db of c collected e in
      let parts = and_parts (not (is_taken (db roots.features) new)) _ put.fresh in
      let free = not-true _ parts.0 in
      let between = put_row new (db roots.features) in
      let mid = with_tree db roots.features between in
      let at : mid roots.features ≡ between = rw (eq-eqb roots.features roots.features refl) refl in
      let zero : mid roots.collections ≡ db roots.collections = rw (ne_eqb roots.collections roots.features (placing.collections_features roots schema ours))
      refl in
      let two : mid roots.meta ≡ db roots.meta = rw (ne_eqb roots.meta roots.features (placing.meta_features roots schema ours)) refl in
      let four : mid roots.batches ≡ db roots.batches = rw (ne_eqb roots.batches roots.features (placing.batches_features roots schema ours)) refl in
      let absent = was_new s db of c collected e (next roots.features) apart (λ r h. subst (λ l. Has l r) (sym put.rows)
      (put_all_keeps (news_of name es between) between r parts.1 h)) free in
      let after = with_features s name c (insert c.features e.0 e.1) in
      let now = record c { features = insert c.features e.0 e.1 } in
      let has : get after.collections name ≡ Some now = get-insert nat_list_cmp_total s.collections name now name
      ∙ ap (λ t. cond t (Some now) (get s.collections name)) (text_self name) in
      let more = leads es after mid next (feature.of_after s schema roots ours db of (name, e.0) c collected e.1 absent mid at zero two four)
      (insert_read s read name c collected e.0 e.1 fine.0) now has fine.1 (record {
        fresh = subst (λ l. are_fresh l (news_of name es l) ≡ true) (sym at) parts.1;
        rows = put.rows ∙ ap (λ l. put_all l (news_of name es l)) (sym at);
        collections = put.collections ∙ sym zero;
        meta = put.meta ∙ sym two;
        batches = put.batches ∙ sym four;
      }) apart in
      record {
        state = more.state;
        puts = (after, record { collection = c; there = collected; absent = absent; fine = fine.0; is = refl }, more.puts);
        of = more.of;
        readable = more.readable;
      }
