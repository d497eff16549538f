-- What the statements over all features of a collection, and over all collections, show of the database of a state.
use Rattle.std.proofs.Common.{◌≡◌, ◌≢◌, ℕ, ℤ, pos, suc, List, [], ◌∷◌, Vec, map, filter, find, codes, drop, Option, Some, None, option_map, refl, sym, ap}
use Rattle.std.proofs.Common.{subst, ◌∙◌, IsUtf8}
use Rattle.std.specs.Option.{option_and_then, option_map_or}
use Rattle.std.specs.FinMap.{get, empty, entries, entries_sorted, get-entries, get-empty}
use Rattle.std.specs.List.{AllByRecursion}
use Rattle.std.proofs.lemmas.Str.{IsUtf8-from_is_utf8}
use Rattle.sqlite.specs.declared.types.Value.TheVariants.{Null, Int, Text as Words}
use Rattle.sqlite.specs.Effect.{Database}
use Rattle.sqlite.specs.Order.{Row, column}
use Rattle.sqlite.specs.Term.{Term, col}
use Rattle.sqlite.specs.Query.{IsAnswerAs}
use Rattle.sqlite.specs.Program.{overlay}
use Rattle.sqlite_sql.specs.Term.{eval_all}
use Rattle.sqlite_catalog.proofs.LayoutLemmas.{ascending_filter}
use Rattle.sqlite_trees.specs.Tree.{rowid}
use Rattle.sqlite_rules.specs.Edit.{id_in}
use Rattle.sqlite_rules.specs.Lists.{Has}
use Rattle.sqlite_rules.proofs.ListLemmas.{all_has, all_from, has_filtered, has_kept}
use Rattle.sqlite_rules.proofs.TableLemmas.{int_is}
use Rattle.streetmap_geojson.specs.FeatureValue.{FeatureValue}
use Rattle.streetmap_geojson.specs.FeatureInvariant.{IsFeature, IsGeometryIf}
use Rattle.streetmap_batch.specs.Text.{Text, text_cmp}
use Rattle.streetmap_ledger.specs.State.{State, Collection}
use Rattle.streetmap_ledger.specs.Outlines.{feature_outline_of}
use Rattle.streetmap_rows.specs.Holds.{first_key, is_first, KeyPair, pair_key, has_pair}
use Rattle.streetmap_rows.proofs.NamedTables.{IsFound}
use Rattle.streetmap_rows.proofs.HeldKeys.{cells_of, there, find_own}
use Rattle.streetmap_rows.proofs.TextKeys.{first_is, first_self, pair_is, pair_self, column_later}
use Rattle.streetmap_rows.proofs.OrderedRows.{Says, AreRowsOf, keeps, ordered_query, shows_entries, if_passes, passed, passing, mapped_has, find_has}
use Rattle.streetmap_rows.specs.KeptStates.{Keeps}
use Rattle.streetmap_rows.specs.Rows.{AreOf, feature_at, feature_cells, collection_cells, extent_in, seconds_in}
use Rattle.streetmap_rows.specs.Representations.{HasTextNames}
use Rattle.streetmap_rows.specs.Statements.{select_collections}
use Rattle.streetmap_rows.specs.Tables.{Roots, features, collections, features_name, collections_name}
use Rattle.streetmap_rows.proofs.Compiles.{select_collections_means, select_collections_never}
use Rattle.streetmap_rows.proofs.TablesInSchema as placing
use Rattle.streetmap_reading.specs.Candidates.{ShowsSuch, ShowsOf}
use Rattle.streetmap_reading.specs.Choices.{is_chosen}
use Rattle.streetmap_reading.proofs.TermsChoose.{in_collection, in_collection_in_turn, all_chooses, chooses_in_turn}
use Rattle.streetmap_reading.proofs.ChosenInOrder.{ShowsIn, shows_chosen_in, shows_chosen_once}
use Rattle.streetmap_reading.proofs.PageRowsShown.{shows_by, shows_such}
use Rattle.streetmap_reading.specs.Statements.{select_outlines, select_outlines_in_turn, select_extents}
use Rattle.streetmap_reading.specs.PassResults.{features_in}
use Rattle.streetmap_reading.specs.Views.{PlacedOutline, placed_row, extent_row, feature_extent, IsOutline, IsOutlineRow, IsExtentRow, IsHeadRow}
use Rattle.streetmap_reading.proofs.PositionBounds.{extent_is_box}
use Rattle.streetmap_reading.proofs.Compiles.{select_extents_means, select_extents_never}
use Rattle.streetmap_reading.proofs.Compiles.{select_outlines_means, select_outlines_never}
use Rattle.streetmap_reading.proofs.Compiles.{select_in_turn_means, select_in_turn_never}
use Rattle.streetmap_reading.proofs.Compiles.{select_extents_in_turn_means, select_extents_in_turn_never}
use Rattle.streetmap_reading.proofs.BoundsTurned.{bounds_turned}
use Rattle.streetmap_reading.specs.Statements.{select_extents_in_turn}
use Rattle.streetmap_rows.proofs.OrderedRows.{has_mapped, found_in}
use Rattle.std.specs.FinMap.{values}
use Rattle.streetmap_grid.specs.declared.grid_box.GridBox.{GridBox}
use Rattle.streetmap_grid.specs.Bounds.{AreBounds}
use Rattle.streetmap_ledger.specs.Summaries.{all_vertices}
use Rattle.streetmap_rows.proofs.AnyOrder.{AreEachOnce}
use Rattle.streetmap_rows.specs.Queries.{over}
use Rattle.streetmap_reading.proofs.RowsInTurn.{map_again}
use Rattle.streetmap_reading.proofs.SortedOutlines.{sorted_are}
use Rattle.streetmap_reading.specs.Held.{HoldsOutlines, HoldsBounds}
use Rattle.streetmap_reading.specs.PassResults.{comes_before}
use Rattle.streetmap_ledger.specs.OutlineView.{feature_outline_values}
use Rattle.streetmap_ledger.specs.declared.outline.FeatureOutline.{FeatureOutline}
use Rattle.std.specs.declared.alloc.Global.{Global}
use Rattle.std.specs.List.Sorted.{IsPermutation, IsSortedBy}

abbrev outline_terms : List Term
outline_terms = col 1 2 ∷ col 1 4 ∷ col 1 5 ∷ col 1 6 ∷ col 1 7 ∷ col 1 8 ∷ col 1 9 ∷ col 1 0 ∷ []

abbrev extent_terms : List Term
extent_terms = col 1 4 ∷ col 1 5 ∷ col 1 6 ∷ col 1 7 ∷ []

abbrev collection_terms : List Term
collection_terms = col 1 1 ∷ col 1 2 ∷ col 1 3 ∷ []

outline_cells : (params r : Row) (p : KeyPair) (f : FeatureValue) (rowid : ℤ) → drop 1 r ≡ feature_cells p f → column r 0 ≡ Int rowid →
    eval_all outline_terms (params ∷ r ∷ []) ≡ placed_row (feature_outline_of p.1 f, rowid)
unfolding extent_in seconds_in
outline_cells params r p f rowid cells is =
    let at : (n : ℕ) → column r (suc n) ≡ column (feature_cells p f) n = λ n. column_later r n ∙ ap (λ x. column x n) cells in
    λ i. at 1 i ∷ at 3 i ∷ at 4 i ∷ at 5 i ∷ at 6 i ∷ at 7 i ∷ at 8 i ∷ is i ∷ []

extent_cells : (rows : List Row) (name : Text) (params : Row) → ShowsIn rows name extent_terms params (λ id f. extent_row (feature_extent f))
unfolding extent_in
extent_cells rows name params r f there of cells =
    let at : (n : ℕ) → column r (suc n) ≡ column (feature_cells (pair_key r) f) n = λ n. column_later r n ∙ ap (λ x. column x n) cells in
    λ i. at 3 i ∷ at 4 i ∷ at 5 i ∷ at 6 i ∷ []

-- each feature is chosen
pub all_pass : (es : List (Text × FeatureValue)) → passing (is_chosen None None) es ≡ es
all_pass [] = refl
all_pass (e ∷ es) = ap (λ l. e ∷ l) (all_pass es)

module _ (db : Database) (s : State) (kept : Keeps s db) where
  abbrev roots : Roots
  roots = kept.rows.roots

  abbrev of : AreOf s roots db.trees
  of = kept.rows.of

  in_features : IsFound db.schema features_name (features roots.features)
  in_features = placing.features_found roots db kept.rows.ours kept.rows.sound

  in_collections : IsFound db.schema collections_name (collections roots.collections)
  in_collections = placing.collections_found roots db kept.rows.ours kept.rows.sound

  module _ (name : Text) where
    abbrev tests : List Term
    tests = in_collection ∷ []

    abbrev params : Row
    params = Words name ∷ []

    abbrev all_rows : List Row
    all_rows = db.trees roots.features

    get_in : (q : Text) → get (features_in s name) q ≡ feature_at s (name, q)
    get_in q = go (get s.collections name)
      where
        go : (o : Option Collection) → get (option_map_or (λ (c : Collection). c.features) o empty) q ≡ option_and_then (λ (c : Collection). get c.features q) o
        go None = get-empty text_cmp q
        go (Some c) = refl

    shown_of : (project : List Term) (view : Text → FeatureValue → Row) → ShowsIn all_rows name project params view → (given : List Row) →
        IsAnswerAs Null (ordered_query roots.features tests project 2) (overlay db.trees []) params given → given
        ≡ map (λ e. view e.0 e.1) (entries (features_in s name))
    shown_of project view shows given a =
        shows_chosen_in s roots db.trees of name (features_in s name) get_in tests params (is_chosen None None) (λ r p f cells is. all_chooses name r p f cells)
        project view shows in_features.low given a ∙ ap (map (λ e. view e.0 e.1)) (all_pass (entries (features_in s name)))

    -- the rowid of the row with an id
    rowid_of : Text → ℤ
    rowid_of q = option_map_or (λ r. id_in (rowid r)) (find (has_pair (name, q)) all_rows) (pos 0)

    pub placed : Text × FeatureValue → PlacedOutline
    placed e = (feature_outline_of e.0 e.1, rowid_of e.0)

    rowid_is : (r : Row) → Has all_rows r → (pair_key r).0 ≡ name → column r 0 ≡ Int (rowid_of (pair_key r).1)
    unfolding rowid_of
    rowid_is r there of_name =
        let found : find (has_pair (name, (pair_key r).1)) all_rows ≡ Some r = subst (λ n. find (has_pair (n, (pair_key r).1)) all_rows ≡ Some r) of_name
        (find_own pair_key has_pair pair_is pair_self all_rows r of.features.apart there) in
        int_is (rowid r) (all_has _ all_rows r of.features.keyed there) ∙ ap (λ o. Int (option_map_or (λ (x : Row). id_in (rowid x)) o (pos 0))) (sym found)

    abbrev placed_as : Text → FeatureValue → Row
    placed_as id f = placed_row (placed (id, f))

    shows_placed : ShowsIn all_rows name outline_terms params placed_as
    unfolding placed
    shows_placed r f there of_name cells = outline_cells params r (pair_key r) f (rowid_of (pair_key r).1) cells (rowid_is r there of_name)

    abbrev outline_names : List (List ℕ)
    outline_names = codes "id" ∷ codes "x0" ∷ codes "y0" ∷ codes "x1" ∷ codes "y1" ∷ codes "s0" ∷ codes "s1" ∷ codes "rowid" ∷ []

    pub outlines_at : ShowsOf select_outlines params db (map (λ e. placed_row (placed e)) (entries (features_in s name)))
    outlines_at = shows_by select_outlines params db (ordered_query roots.features tests outline_terms 2) outline_names _
        (select_outlines_means db.schema roots.features in_features) (select_outlines_never db.schema roots.features in_features db.trees name)
        (shown_of outline_terms placed_as shows_placed)

    -- in any order, each once
    abbrev pub AreOnce : List Row → Type 0
    AreOnce = AreEachOnce (λ q. if_passes (is_chosen None None) (get (features_in s name) q)) placed_as

    pub outlines_in_turn_at : ShowsSuch select_outlines_in_turn params db AreOnce
    outlines_in_turn_at = shows_such select_outlines_in_turn params db (over roots.features (in_collection_in_turn ∷ []) outline_terms) outline_names _
        (select_in_turn_means db.schema roots.features in_features) (select_in_turn_never db.schema roots.features in_features db.trees name)
        (shows_chosen_once s roots db.trees of name (features_in s name) get_in (in_collection_in_turn ∷ []) params (is_chosen None None)
        (λ r p f cells is. chooses_in_turn name r p f cells) outline_terms placed_as shows_placed in_features.low)

    pub extents_at : ShowsOf select_extents params db (map (λ e. extent_row (feature_extent e.1)) (entries (features_in s name)))
    extents_at = shows_by select_extents params db (ordered_query roots.features tests extent_terms 2) (codes "x0" ∷ codes "y0" ∷ codes "x1" ∷ codes "y1" ∷ [])
        _ (select_extents_means db.schema roots.features in_features) (select_extents_never db.schema roots.features in_features db.trees name)
        (shown_of extent_terms (λ id f. extent_row (feature_extent f)) (extent_cells all_rows name params))

    abbrev extent_as : Text → FeatureValue → Row
    extent_as id f = extent_row (feature_extent f)

    abbrev pub AreExtentsOnce : List Row → Type 0
    AreExtentsOnce = AreEachOnce (λ q. if_passes (is_chosen None None) (get (features_in s name) q)) extent_as

    pub extents_in_turn_at : ShowsSuch select_extents_in_turn params db AreExtentsOnce
    extents_in_turn_at = shows_such select_extents_in_turn params db (over roots.features (in_collection_in_turn ∷ []) extent_terms)
        (codes "x0" ∷ codes "y0" ∷ codes "x1" ∷ codes "y1" ∷ []) _ (select_extents_in_turn_means db.schema roots.features in_features)
        (select_extents_in_turn_never db.schema roots.features in_features db.trees name)
        (shows_chosen_once s roots db.trees of name (features_in s name) get_in (in_collection_in_turn ∷ []) params (is_chosen None None)
        (λ r p f cells is. chooses_in_turn name r p f cells) extent_terms extent_as (extent_cells all_rows name params) in_features.low)

    -- ---- what is shown can be read

    feature_is_at : (e : Text × FeatureValue) → Has (entries (features_in s name)) e → feature_at s (name, e.0) ≡ Some e.1
    feature_is_at e h = sym (get_in e.0) ∙ get-entries (features_in s name) e.0 ∙ find_has (entries (features_in s name)) e.0 e.1
        (entries_sorted (features_in s name)) h

    fine_at : (e : Text × FeatureValue) → Has (entries (features_in s name)) e → IsFeature e.1
    fine_at e h = kept.rows.readable.features (name, e.0) e.1 (feature_is_at e h)

    id_text : (q : Text) (f : FeatureValue) → feature_at s (name, q) ≡ Some f → IsUtf8 q
    id_text q f is = go (get s.collections name) refl is
      where
        go : (o : Option Collection) → get s.collections name ≡ o → option_and_then (λ (c : Collection). get c.features q) o ≡ Some f → IsUtf8 q
        go None at found = absurd (cc)
        go (Some c) at found = let it = (kept.well.made name c at).holds q f found in subst IsUtf8 it.named (IsUtf8-from_is_utf8 f.id it.is.text)

    outline_of_stored : (e : Text × FeatureValue) → feature_at s (name, e.0) ≡ Some e.1 → IsOutline (feature_outline_of e.0 e.1)
    outline_of_stored e is = record { id = id_text e.0 e.1 is; extent = extent_is_box e.1.geometry (kept.rows.readable.features (name, e.0) e.1 is).made }

    outline_fine : (e : Text × FeatureValue) → Has (entries (features_in s name)) e → IsOutline (feature_outline_of e.0 e.1)
    outline_fine e h = outline_of_stored e (feature_is_at e h)

    pub outlines_fine : AllByRecursion (λ (p : PlacedOutline). IsOutline p.0) (map placed (entries (features_in s name)))
    unfolding placed
    outlines_fine = all_from (λ (p : PlacedOutline). IsOutline p.0) _ (λ p h. let e = mapped_has placed (entries (features_in s name)) p h in
        subst (λ (x : PlacedOutline). IsOutline x.0) (sym e.2) (outline_fine e.0 e.1))

    pub outline_rows : AllByRecursion IsOutlineRow (map (λ e. placed_row (placed e)) (entries (features_in s name)))
    unfolding placed
    outline_rows = all_from IsOutlineRow _ (λ r h. let e = mapped_has (λ (e : Text × FeatureValue). placed_row (placed e)) (entries (features_in s name)) r h in
        record { placed = placed e.0; fine = outline_fine e.0 e.1; is = e.2 })

    -- without the rowids they are the outlines of the features
    pub outlines_are : map (λ p. p.0) (map placed (entries (features_in s name))) ≡ map (λ e. feature_outline_of e.0 e.1) (entries (features_in s name))
    unfolding placed
    outlines_are = map_again (λ p. p.0) placed (entries (features_in s name))

    -- ---- the rows of the outlines in any order

    once_shown : (rows : List Row) (once : AreOnce rows) (e : Text × FeatureValue) → Has once.es e → get (features_in s name) e.0 ≡ Some e.1
    once_shown rows once e h = (passed (is_chosen None None) (get (features_in s name) e.0) e.1 (once.each e h)).0

    -- each row is that of an outline
    once_outline : (rows : List Row) (once : AreOnce rows) (e : Text × FeatureValue) → Has once.es e → IsOutline (feature_outline_of e.0 e.1)
    once_outline rows once e h = outline_of_stored e (sym (get_in e.0) ∙ once_shown rows once e h)

    pub once_fine : (rows : List Row) → AreOnce rows → AllByRecursion IsOutlineRow rows
    unfolding placed
    once_fine rows once = all_from IsOutlineRow rows (λ r h.
        let e = mapped_has (λ (e : Text × FeatureValue). placed_as e.0 e.1) once.es r (subst (λ l. Has l r) once.is h) in
        record { placed = placed e.0; fine = once_outline rows once e.0 e.1; is = e.2 })

    -- sorted by their ids they are the outlines of the collection's features
    pub outlines_once : (rows : List Row) (once : AreOnce rows) (os : Vec FeatureOutline Global) (sorted : List FeatureOutline) → HoldsOutlines os rows →
        IsPermutation os.items sorted → IsSortedBy comes_before sorted → feature_outline_values sorted
        ≡ map (λ e. feature_outline_of e.0 e.1) (entries (features_in s name))
    unfolding placed
    outlines_once rows once os sorted holds same up =
        let reported = holds (map placed once.es) (once.is ∙ sym (map_again placed_row placed once.es))
        (all_from (λ (p : PlacedOutline). IsOutline p.0) _ (λ p h. let e = mapped_has placed once.es p h in
        subst (λ (x : PlacedOutline). IsOutline x.0) (sym e.2) (once_outline rows once e.0 e.1))) in
        sorted_are (features_in s name) once.es once.apart (once_shown rows once) (λ q f is. once.all q f (ap (if_passes (is_chosen None None)) is)) os.items
        sorted (reported ∙ map_again (λ p. p.0) placed once.es) same up

    -- ---- the rows of the extents in any order

    extent_shown : (rows : List Row) (once : AreExtentsOnce rows) (e : Text × FeatureValue) → Has once.es e → get (features_in s name) e.0 ≡ Some e.1
    extent_shown rows once e h = (passed (is_chosen None None) (get (features_in s name) e.0) e.1 (once.each e h)).0

    geometry_fine : (rows : List Row) (once : AreExtentsOnce rows) (e : Text × FeatureValue) → Has once.es e → IsGeometryIf e.1.geometry
    geometry_fine rows once e h = (kept.rows.readable.features (name, e.0) e.1 (sym (get_in e.0) ∙ extent_shown rows once e h)).made

    pub extents_once_fine : (rows : List Row) → AreExtentsOnce rows → AllByRecursion IsExtentRow rows
    extents_once_fine rows once = all_from IsExtentRow rows (λ r h.
        let e = mapped_has (λ (e : Text × FeatureValue). extent_as e.0 e.1) once.es r (subst (λ l. Has l r) once.is h) in
        record { feature = e.0.1; fine = geometry_fine rows once e.0 e.1; is = e.2 })

    -- their bounds are those of the collection's features
    pub extents_once : (rows : List Row) (once : AreExtentsOnce rows) (o : Option GridBox) → HoldsBounds o rows →
        AreBounds (all_vertices (values (features_in s name))) o
    extents_once rows once o holds =
        let fs = map (λ (e : Text × FeatureValue). e.1) once.es in
        let reported = holds fs (once.is ∙ sym (map_again (λ f. extent_row (feature_extent f)) (λ e. e.1) once.es))
        (all_from (λ (f : FeatureValue). IsGeometryIf f.geometry) fs (λ f h. let e = mapped_has (λ (e : Text × FeatureValue). e.1) once.es f h in
        subst (λ (x : FeatureValue). IsGeometryIf x.geometry) (sym e.2) (geometry_fine rows once e.0 e.1))) in
        bounds_turned fs (values (features_in s name)) (λ f h. to f (mapped_has (λ (e : Text × FeatureValue). e.1) once.es f h))
        (λ f h. from f (mapped_has (λ (e : Text × FeatureValue). e.1) (entries (features_in s name)) f h)) o reported
      where
        to : (f : FeatureValue) → (e : Text × FeatureValue) × Has once.es e × (f ≡ e.1) → Has (values (features_in s name)) f
        to f e = subst (Has (values (features_in s name))) (sym e.2) (has_mapped (λ (x : Text × FeatureValue). x.1) (entries (features_in s name)) e.0
            (found_in (entries (features_in s name)) e.0.0 e.0.1 (sym (get-entries (features_in s name) e.0.0) ∙ extent_shown rows once e.0 e.1)))

        from : (f : FeatureValue) → (e : Text × FeatureValue) × Has (entries (features_in s name)) e × (f ≡ e.1) →
            Has (map (λ (e : Text × FeatureValue). e.1) once.es) f
        from f e =
            let at : get (features_in s name) e.0.0 ≡ Some e.0.1 = get-entries (features_in s name) e.0.0
            ∙ find_has (entries (features_in s name)) e.0.0 e.0.1 (entries_sorted (features_in s name)) e.1 in
            let x = mapped_has (λ (x : Text × FeatureValue). x.0) once.es e.0.0 (once.all e.0.0 e.0.1 (ap (if_passes (is_chosen None None)) at)) in
            let both : Some x.0.1 ≡ Some e.0.1 = sym (extent_shown rows once x.0 x.1) ∙ ap (get (features_in s name)) (sym x.2) ∙ at in
            let same : x.0.1 ≡ e.0.1 = cc in
            subst (Has (map (λ (e : Text × FeatureValue). e.1) once.es)) (same ∙ sym e.2) (has_mapped (λ (x : Text × FeatureValue). x.1) once.es x.0 x.1)

    pub geometries_fine : AllByRecursion (λ (f : FeatureValue). IsGeometryIf f.geometry) (map (λ e. e.1) (entries (features_in s name)))
    geometries_fine = all_from (λ (f : FeatureValue). IsGeometryIf f.geometry) _ (λ f h. let e =
        mapped_has (λ (e : Text × FeatureValue). e.1) (entries (features_in s name)) f h in
        subst (λ (x : FeatureValue). IsGeometryIf x.geometry) (sym e.2) (fine_at e.0 e.1).made)

    pub extent_rows : AllByRecursion IsExtentRow (map (λ e. extent_row (feature_extent e.1)) (entries (features_in s name)))
    extent_rows = all_from IsExtentRow _ (λ r h. let e = mapped_has (λ (e : Text × FeatureValue). extent_row (feature_extent e.1))
        (entries (features_in s name)) r h in record { feature = e.0.1; fine = (fine_at e.0 e.1).made; is = e.2 })

  -- ---- all collections

  abbrev collection_list : List Row
  collection_list = db.trees roots.collections

  collection_says : (r : Row) → Has (filter (keeps [] []) collection_list) r → Says (get s.collections) collection_cells 1
      (λ r. eval_all collection_terms ([] ∷ r ∷ [])) r
  collection_says r h = go (get s.collections (first_key r)) refl (cells_of first_key is_first first_is first_self _ collection_list of.collections r
      (has_filtered (keeps [] []) collection_list r h).0)
    where
      go : (o : Option Collection) → get s.collections (first_key r) ≡ o → option_map (collection_cells (first_key r)) o ≡ Some (drop 1 r) →
          Says (get s.collections) collection_cells 1 (λ r. eval_all collection_terms ([] ∷ r ∷ [])) r
      go None is some = absurd (cc)
      go (Some c) is some =
          let cells : collection_cells (first_key r) c ≡ drop 1 r = cc in
          let at : (n : ℕ) → column r (suc n) ≡ column (collection_cells (first_key r) c) n = λ n. column_later r n ∙ ap (λ x. column x n) (sym cells) in
          record { value = c; is = is; named = at 0; shown = λ i. at 0 i ∷ at 1 i ∷ at 2 i ∷ [] }

  all_collections : AreRowsOf (get s.collections) collection_cells 1 (λ r. eval_all collection_terms ([] ∷ r ∷ [])) (filter (keeps [] []) collection_list)
  all_collections = record {
    apart = ascending_filter (λ a b. first_key a ≢ first_key b) (keeps [] []) collection_list of.collections.apart;
    each = collection_says;
    all = λ q c is.
        let r = there first_key is_first first_is first_self (λ name. option_map (collection_cells name) (get s.collections name)) collection_list
        of.collections q (collection_cells q c) (ap (option_map (collection_cells q)) is) in
        (r.0, has_kept (keeps [] []) collection_list r.0 r.1 refl, r.2);
  }

  pub collections_at : ShowsOf select_collections [] db (map (λ e. collection_cells e.0 e.1) (entries s.collections))
  collections_at = shows_by select_collections [] db (ordered_query roots.collections [] collection_terms 1) (codes "id" ∷ codes "title" ∷ codes "time" ∷ []) _
      (select_collections_means db.schema roots.collections in_collections) (select_collections_never db.schema roots.collections in_collections db.trees)
      (λ given a. shows_entries roots.collections [] collection_terms 1 [] (get s.collections) collection_cells db.trees in_collections.low all_collections
      given a (entries s.collections) (entries_sorted s.collections) (get-entries s.collections))

  -- each is found under its id
  pub found_each : AllByRecursion (λ (e : Text × Collection). get s.collections e.0 ≡ Some e.1) (entries s.collections)
  found_each = all_from _ (entries s.collections) (λ e h. get-entries s.collections e.0 ∙ find_has (entries s.collections) e.0 e.1
      (entries_sorted s.collections) h)

  pub names_each : AllByRecursion (λ (e : Text × Collection). HasTextNames e.0 e.1) (entries s.collections)
  names_each = all_from _ (entries s.collections) (λ e h. kept.rows.readable.collections e.0 e.1 (all_has _ (entries s.collections) e found_each h))

  pub head_rows : AllByRecursion IsHeadRow (map (λ e. collection_cells e.0 e.1) (entries s.collections))
  head_rows = all_from IsHeadRow _ (λ r h. let e = mapped_has (λ (e : Text × Collection). collection_cells e.0 e.1) (entries s.collections) r h in
      record { id = e.0.0; collection = e.0.1; fine = all_has _ (entries s.collections) e.0 names_each e.1; is = e.2 })
