-- What the statements of a check show of the database of a state.
use Rattle.std.proofs.Common.{◌≡◌, ◌≢◌, ℕ, suc, List, [], ◌∷◌, map, filter, codes, drop, Bool, true, false, Option, Some, None, option_map, pos, refl, sym, ap}
use Rattle.std.proofs.Common.{subst, ◌∙◌}
use Rattle.std.specs.FinMap.{get, entries, entries_sorted, get-entries}
use Rattle.std.specs.Option.{option_and_then}
use Rattle.std.specs.List.Sorted.{IsPermutation}
use Rattle.std.proofs.lemmas.List.Sorted.{IsPermutation-sym, Contains-permutation}
use Rattle.sqlite.specs.declared.types.Value.TheVariants.{Null, Int, Text as Words}
use Rattle.sqlite.specs.Effect.{Database}
use Rattle.sqlite.specs.Order.{Row, column}
use Rattle.sqlite.specs.Term.{Term, col}
use Rattle.sqlite.specs.Query.{IsAnswerAs, Output, output}
use Rattle.sqlite.specs.Program.{overlay}
use Rattle.sqlite_sql.specs.Term.{eval_all}
use Rattle.sqlite_catalog.proofs.LayoutLemmas.{ascending_filter}
use Rattle.sqlite_rules.specs.Lists.{Has}
use Rattle.sqlite_rules.proofs.ListLemmas.{all_from, has_filtered, has_kept, has_contained, contains_had}
use Rattle.streetmap_geojson.specs.FeatureValue.{FeatureValue}
use Rattle.streetmap_batch.specs.Text.{Text}
use Rattle.streetmap_ledger.specs.State.{State, Collection, AcceptedBatch}
use Rattle.streetmap_rows.specs.Holds.{first_key, is_first, same_text, pair_key}
use Rattle.streetmap_rows.proofs.OneRowChosen.{picked, staged}
use Rattle.streetmap_rows.proofs.NamedTables.{IsFound}
use Rattle.streetmap_rows.proofs.HeldKeys.{cells_of, there}
use Rattle.streetmap_rows.proofs.TextKeys.{first_is, first_self, column_later, text_is}
use Rattle.streetmap_rows.proofs.OrderedRows.{Says, AreRowsOf, keeps, ordered_query, shows_entries, mapped_has, has_mapped, found_in}
use Rattle.streetmap_rows.specs.KeptStates.{Keeps}
use Rattle.streetmap_rows.specs.Rows.{AreOf, feature_at, feature_cells, batch_cells, meta_cells}
use Rattle.streetmap_rows.specs.Tables.{Roots, features, batches, meta, features_name, batches_name, meta_name}
use Rattle.streetmap_rows.proofs.TablesInSchema as placing
use Rattle.streetmap_reading.specs.Candidates.{ShowsOf}
use Rattle.streetmap_reading.specs.Choices.{is_chosen}
use Rattle.streetmap_reading.proofs.TermsChoose.{in_collection, all_chooses}
use Rattle.streetmap_reading.proofs.ChosenInOrder.{Shows, row_of, shows_chosen}
use Rattle.streetmap_reading.proofs.PageRowsShown.{shows_by}
use Rattle.streetmap_checking.specs.Good.{AreOwnerRows, feature_view}
use Rattle.streetmap_checking.specs.Statements.{select_formats, select_features, select_owners, select_batches}
use Rattle.streetmap_checking.proofs.Compiles.{select_formats_means, select_formats_never, select_features_means, select_features_never, select_owners_means}
use Rattle.streetmap_checking.proofs.Compiles.{select_owners_never, select_batches_means, select_batches_never}
use Rattle.streetmap_checking.proofs.Only.{OnlyShows, only_by}
use Rattle.streetmap_reading.proofs.ShownOutlines.{all_pass}

abbrev format_terms : List Term
format_terms = col 1 1 ∷ col 1 2 ∷ []

abbrev feature_terms : List Term
feature_terms = col 1 2 ∷ col 1 3 ∷ col 1 4 ∷ col 1 5 ∷ col 1 6 ∷ col 1 7 ∷ col 1 8 ∷ col 1 9 ∷ []

abbrev owner_terms : List Term
owner_terms = col 1 1 ∷ []

abbrev batch_terms : List Term
batch_terms = col 1 1 ∷ col 1 2 ∷ col 1 3 ∷ col 1 4 ∷ col 1 5 ∷ col 1 6 ∷ col 1 7 ∷ []

feature_shows : (params : Row) → Shows feature_terms params feature_view
feature_shows params r p f cells =
    let at : (n : ℕ) → column r (suc n) ≡ column (feature_cells p f) n = λ n. column_later r n ∙ ap (λ x. column x n) cells in
    λ i. at 1 i ∷ at 2 i ∷ at 3 i ∷ at 4 i ∷ at 5 i ∷ at 6 i ∷ at 7 i ∷ at 8 i ∷ []

abbrev pub format_row : Row
format_row = Words (codes "format") ∷ Int (pos 2) ∷ []

cells_is : (key : Text) (cells : Row) (b : Bool) → same_text key (codes "format") ≡ b → meta_cells key ≡ Some cells → (cells ≡ format_row)
    × (key ≡ codes "format")
cells_is key cells true same h = (
  (let e : Some format_row ≡ Some cells = sym (rw same refl) ∙ h in let is : format_row ≡ cells = cc in sym is),
  text_is key (codes "format") same,
)
cells_is key cells false same h = absurd (let e : None ≡ Some cells = sym (rw same refl) ∙ h in cc)

module _ (db : Database) (s : State) (kept : Keeps s db) where
  abbrev roots : Roots
  roots = kept.rows.roots

  abbrev of : AreOf s roots db.trees
  of = kept.rows.of

  in_meta : IsFound db.schema meta_name (meta roots.meta)
  in_meta = placing.meta_found roots db kept.rows.ours kept.rows.sound

  in_features : IsFound db.schema features_name (features roots.features)
  in_features = placing.features_found roots db kept.rows.ours kept.rows.sound

  in_batches : IsFound db.schema batches_name (batches roots.batches)
  in_batches = placing.batches_found roots db kept.rows.ours kept.rows.sound

  -- ---- the format

  format_says : (r : Row) → Has (filter (keeps [] []) (db.trees roots.meta)) r → Says meta_cells (λ name cells. cells) 1
      (λ r. eval_all format_terms ([] ∷ r ∷ [])) r
  format_says r h =
      let is = cells_of first_key is_first first_is first_self _ (db.trees roots.meta) of.format r (has_filtered (keeps [] []) (db.trees roots.meta) r h).0 in
      let it = cells_is (first_key r) (drop 1 r) (same_text (first_key r) (codes "format")) refl is in
      let at : (n : ℕ) → column r (suc n) ≡ column format_row n = λ n. column_later r n ∙ ap (λ x. column x n) it.0 in
      record { value = drop 1 r; is = is; named = at 0 ∙ ap Words (sym it.1); shown = (λ i. at 0 i ∷ at 1 i ∷ []) ∙ sym it.0 }

  all_formats : AreRowsOf meta_cells (λ name cells. cells) 1 (λ r. eval_all format_terms ([] ∷ r ∷ [])) (filter (keeps [] []) (db.trees roots.meta))
  all_formats = record {
    apart = ascending_filter (λ a b. first_key a ≢ first_key b) (keeps [] []) (db.trees roots.meta) of.format.apart;
    each = format_says;
    all = λ q c is. let r = there first_key is_first first_is first_self meta_cells (db.trees roots.meta) of.format q c is in
        (r.0, has_kept (keeps [] []) (db.trees roots.meta) r.0 r.1 refl, r.2);
  }

  pub formats_at : ShowsOf select_formats [] db (format_row ∷ [])
  formats_at = shows_by select_formats [] db (ordered_query roots.meta [] format_terms 1) (codes "name" ∷ codes "value" ∷ []) _
      (select_formats_means db.schema roots.meta in_meta) (select_formats_never db.schema roots.meta in_meta db.trees)
      (λ given a. shows_entries roots.meta [] format_terms 1 [] meta_cells (λ name cells. cells) db.trees in_meta.low all_formats given a
      ((codes "format", format_row) ∷ []) tt (λ q. refl))

  -- ---- features of a collection

  module _ (name : Text) (c : Collection) (collected : get s.collections name ≡ Some c) where
    get_in : (q : Text) → get c.features q ≡ feature_at s (name, q)
    get_in q = sym (rw collected refl)

    pub features_at : ShowsOf select_features (Words name ∷ []) db (map (λ e. feature_view e.0 e.1) (entries c.features))
    features_at = shows_by select_features (Words name ∷ []) db (ordered_query roots.features (in_collection ∷ []) feature_terms 2)
        (codes "id" ∷ codes "body" ∷ codes "x0" ∷ codes "y0" ∷ codes "x1" ∷ codes "y1" ∷ codes "s0" ∷ codes "s1" ∷ []) _
        (select_features_means db.schema roots.features in_features) (select_features_never db.schema roots.features in_features db.trees name)
        (λ given a. shows_chosen s roots db.trees of name c.features get_in (in_collection ∷ []) (Words name ∷ []) (is_chosen None None) (all_chooses name)
        feature_terms feature_view (feature_shows (Words name ∷ [])) in_features.low given a
        ∙ ap (map (λ e. feature_view e.0 e.1)) (all_pass (entries c.features)))

  -- ---- batches

  batch_says : (r : Row) → Has (filter (keeps [] []) (db.trees roots.batches)) r → Says (get s.keys) batch_cells 1 (λ r. eval_all batch_terms ([] ∷ r ∷ [])) r
  batch_says r h = go (get s.keys (first_key r)) refl (cells_of first_key is_first first_is first_self _ (db.trees roots.batches) of.batches r
      (has_filtered (keeps [] []) (db.trees roots.batches) r h).0)
    where
      go : (o : Option AcceptedBatch) → get s.keys (first_key r) ≡ o → option_map (batch_cells (first_key r)) o ≡ Some (drop 1 r) →
          Says (get s.keys) batch_cells 1 (λ r. eval_all batch_terms ([] ∷ r ∷ [])) r
      go None is some = absurd (cc)
      go (Some k) is some =
          let cells : batch_cells (first_key r) k ≡ drop 1 r = cc in
          let at : (n : ℕ) → column r (suc n) ≡ column (batch_cells (first_key r) k) n = λ n. column_later r n ∙ ap (λ x. column x n) (sym cells) in
          record { value = k; is = is; named = at 0; shown = λ i. at 0 i ∷ at 1 i ∷ at 2 i ∷ at 3 i ∷ at 4 i ∷ at 5 i ∷ at 6 i ∷ [] }

  all_batches : AreRowsOf (get s.keys) batch_cells 1 (λ r. eval_all batch_terms ([] ∷ r ∷ [])) (filter (keeps [] []) (db.trees roots.batches))
  all_batches = record {
    apart = ascending_filter (λ a b. first_key a ≢ first_key b) (keeps [] []) (db.trees roots.batches) of.batches.apart;
    each = batch_says;
    all = λ q k is.
        let r = there first_key is_first first_is first_self (λ key. option_map (batch_cells key) (get s.keys key)) (db.trees roots.batches) of.batches q
        (batch_cells q k) (ap (option_map (batch_cells q)) is) in
        (r.0, has_kept (keeps [] []) (db.trees roots.batches) r.0 r.1 refl, r.2);
  }

  pub batches_at : ShowsOf select_batches [] db (map (λ e. batch_cells e.0 e.1) (entries s.keys))
  batches_at = shows_by select_batches [] db (ordered_query roots.batches [] batch_terms 1)
      (codes "key" ∷ codes "body" ∷ codes "opened" ∷ codes "inserted" ∷ codes "replaced" ∷ codes "deleted" ∷ codes "serial" ∷ []) _
      (select_batches_means db.schema roots.batches in_batches) (select_batches_never db.schema roots.batches in_batches db.trees)
      (λ given a. shows_entries roots.batches [] batch_terms 1 [] (get s.keys) batch_cells db.trees in_batches.low all_batches given a (entries s.keys)
      (entries_sorted s.keys) (get-entries s.keys))

  -- ---- the collections that features name

  abbrev owners : List Text
  owners = map (λ e. e.0) (entries s.collections)

  abbrev Owned : Row → Type 0
  Owned row = (name : Text) × Has owners name × (row ≡ Words name ∷ [])

  owned : (r : Row) → Has (db.trees roots.features) r → Owned (eval_all owner_terms ([] ∷ r ∷ []))
  owned r h =
      let it = row_of s roots db.trees of r h in
      go (get s.collections (pair_key r).0) refl it.is (column_later r 0 ∙ ap (λ x. column x 0) it.cells)
    where
      go : (o : Option Collection) → get s.collections (pair_key r).0 ≡ o → {f : FeatureValue} →
          option_and_then (λ (c : Collection). get c.features (pair_key r).1) o ≡ Some f → column r 1 ≡ Words (pair_key r).0 →
          Owned (eval_all owner_terms ([] ∷ r ∷ []))
      go None at is first = absurd (cc)
      go (Some c) at is first = (
        (pair_key r).0,
        has_mapped (λ (e : Text × Collection). e.0) (entries s.collections) ((pair_key r).0, c)
            (found_in (entries s.collections) (pair_key r).0 c (sym (get-entries s.collections (pair_key r).0) ∙ at)),
        λ i. first i ∷ [],
      )

  all_owned : (shown : List Row) → IsAnswerAs Null (ordered_query roots.features [] owner_terms 1) (overlay db.trees []) [] shown → AreOwnerRows owners shown
  all_owned shown answer = subst (AreOwnerRows owners) (sym answer.shown) (all_from Owned _ (λ row h.
      let o = mapped_has (λ (x : Output). x.1) answer.ordered row h in
      let was = subst (λ l. IsPermutation l answer.ordered) (answer.distinct ∙ ap (map (output (ordered_query roots.features [] owner_terms 1)))
      (answer.grouped ∙ staged db.trees roots.features [] [] in_features.low ∙ picked (keeps [] []) (λ r. [] ∷ r ∷ []) (db.trees roots.features)))
      answer.same in
      let e = mapped_has (output (ordered_query roots.features [] owner_terms 1)) _ o.0 (has_contained _ o.0
      (Contains-permutation _ _ o.0 (IsPermutation-sym _ _ was) (contains_had answer.ordered o.0 o.1))) in
      let r = mapped_has (λ (r : Row). [] ∷ r ∷ []) _ e.0 e.1 in
      subst Owned (sym (o.2 ∙ ap (λ (x : Output). x.1) (e.2 ∙ ap (output (ordered_query roots.features [] owner_terms 1)) r.2)))
      (owned r.0 (has_filtered (keeps [] []) (db.trees roots.features) r.0 r.1).0)))

  pub owners_at : OnlyShows select_owners [] db (AreOwnerRows owners)
  owners_at = only_by select_owners [] db (ordered_query roots.features [] owner_terms 1) (codes "collection" ∷ []) (AreOwnerRows owners)
      (select_owners_means db.schema roots.features in_features) (select_owners_never db.schema roots.features in_features db.trees) all_owned
