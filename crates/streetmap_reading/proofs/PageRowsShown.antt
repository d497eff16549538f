-- What the statements of a page show of the database of a state.
use Rattle.std.proofs.Common.{length, suc, ◌≡◌, ℕ, List, [], ◌∷◌, ◌++◌, map, filter, codes, Bool, find, Option, Some, None, option_map, refl, sym, ap, ◌∙◌}
use Rattle.std.specs.FinMap.{get, values, entries, entries_sorted, get-entries}
use Rattle.std.specs.List.{AllByRecursion}
use Rattle.std.specs.Option.{option_to_list}
use Rattle.sqlite.specs.declared.types.Value.TheVariants.{Null, Text as Words}
use Rattle.sqlite.specs.declared.error.Error.{Error}
use Rattle.sqlite.specs.Order.{Row, column}
use Rattle.sqlite.specs.Term.{Term, col}
use Rattle.sqlite.specs.Query.{Query, IsAnswerAs}
use Rattle.sqlite.specs.Program.{overlay}
use Rattle.sqlite.specs.Effect.{Database, RefusesQuery}
use Rattle.sqlite.specs.Command.TheVariants.{Select}
use Rattle.sqlite.specs.Listing.{understood}
use Rattle.sqlite.proofs.Callers.{IsPlain}
use Rattle.sqlite_rules.specs.Lists.{Has}
use Rattle.sqlite_rules.proofs.ListLemmas.{all_from, has_filtered}
use Rattle.streetmap_grid.specs.Values.{BoxValue}
use Rattle.streetmap_moment.specs.IntervalValue.{IntervalValue}
use Rattle.streetmap_geojson.specs.FeatureValue.{FeatureValue}
use Rattle.streetmap_batch.specs.Text.{Text}
use Rattle.streetmap_ledger.specs.State.{State, Collection}
use Rattle.streetmap_rows.specs.Holds.{first_key, is_first}
use Rattle.streetmap_rows.specs.Rows.{AreOf, feature_at, collection_cells}
use Rattle.streetmap_rows.specs.KeptStates.{Keeps}
use Rattle.streetmap_rows.specs.Statements.{select_all, select_in_box, select_in_time, select_in_both, select_collection}
use Rattle.streetmap_rows.proofs.HeldKeys.{cells_of, filter_one}
use Rattle.streetmap_rows.proofs.TextKeys.{first_is, first_self, column_later}
use Rattle.streetmap_rows.specs.Queries.{over, program}
use Rattle.streetmap_rows.proofs.NamedTables.{IsFound}
use Rattle.streetmap_rows.proofs.Resolving.{Means, command_is, is_plain, is_whole, unlisted}
use Rattle.streetmap_rows.proofs.OneRowChosen.{chosen, shown_as, staged}
use Rattle.streetmap_rows.specs.Tables.{Roots, features, collections, features_name, collections_name}
use Rattle.streetmap_rows.proofs.Compiles.{one, select_all_means, select_all_never, select_in_box_means, select_in_box_never, select_in_time_means}
use Rattle.streetmap_rows.proofs.Compiles.{select_in_time_never, select_in_both_means, select_in_both_never, select_collection_means, select_collection_never}
use Rattle.streetmap_rows.proofs.PutCollection.{name_cell}
use Rattle.streetmap_rows.proofs.KeyReads.{named_is}
use Rattle.streetmap_rows.proofs.TablesInSchema as placing
use Rattle.streetmap_reading.specs.Candidates.{candidate_row, ShowsSuch, ShowsOf}
use Rattle.streetmap_rows.specs.Stored.{IsStored}
use Rattle.streetmap_reading.specs.Choices.{is_chosen, chosen_of}
use Rattle.streetmap_rows.specs.Views.{collection_view}
use Rattle.streetmap_moment.specs.Meeting.{first_second, last_second}
use Rattle.streetmap_rows.proofs.OrderedRows.{find_has, mapped_has}
use Rattle.streetmap_reading.proofs.ChosenInOrder.{Chooses, page_query, lists_chosen}
use Rattle.streetmap_reading.proofs.TermsChoose.{in_collection, box_params, time_params, box_terms, time_terms, all_chooses, box_chooses, time_chooses}
use Rattle.streetmap_reading.proofs.TermsChoose.{both_chooses}

-- ---- the features of a collection

module _ (s : State) (db : Database) (keeps : Keeps s db) (name : Text) (c : Collection) (collected : get s.collections name ≡ Some c) where
  pub stored_one : (f : FeatureValue) → Has (values c.features) f → IsStored c.time f
  stored_one f h =
      let e = mapped_has (λ (x : Text × FeatureValue). x.1) (entries c.features) f h in
      let at : get c.features e.0.0 ≡ Some e.0.1 = get-entries c.features e.0.0 ∙ find_has (entries c.features) e.0.0 e.0.1 (entries_sorted c.features) e.1 in
      let is : get c.features e.0.0 ≡ Some f = at ∙ ap Some (sym e.2) in
      let placed : feature_at s (name, e.0.0) ≡ Some f = rw (collected, is) refl in
      record { kept = keeps.rows.readable.features (name, e.0.0) f placed; timed = ((keeps.well.made name c collected).holds e.0.0 f is).timed }

  pub stored : AllByRecursion (IsStored c.time) (values c.features)
  stored = all_from _ (values c.features) stored_one

  pub chosen_stored : (box : Option BoxValue) (interval : Option IntervalValue) → AllByRecursion (IsStored c.time) (chosen_of box interval c)
  chosen_stored box interval = all_from _ (chosen_of box interval c) (λ f h. stored_one f (has_filtered (is_chosen box interval) (values c.features) f h).0)

-- ---- each statement of a page

-- what a query that no rule refuses shows
pub shows_such : (sql : List ℕ) (params : Row) (db : Database) (q : Query) (names : List (List ℕ)) (Are : List Row → Type 0) →
    Means db.schema sql (length params) (Select (program q) names)
    → ((e : Error) → RefusesQuery None db (program q) params e → ⊥) → ((given : List Row) → IsAnswerAs Null q (overlay db.trees []) params given → Are given) →
    ShowsSuch sql params db Are
shows_such sql params db q names Are it never only = record {
  plain = is_plain db.schema sql (length params) _ it;
  unlisted = unlisted db.schema sql (length params) _ it;
  program = program q;
  names = names;
  is = command_is db.schema sql (length params) _ it;
  whole = is_whole db.schema sql (length params) _ it;
  starts = λ given h. (h.1.0, only (given ++ h.1.0) (h.1.1 Null));
  answers = λ given h. only given (h.answer Null);
  never = never;
}

pub shows_by : (sql : List ℕ) (params : Row) (db : Database) (q : Query) (names : List (List ℕ)) (rows : List Row) →
    Means db.schema sql (length params) (Select (program q) names)
    → ((e : Error) → RefusesQuery None db (program q) params e → ⊥) → ((given : List Row) → IsAnswerAs Null q (overlay db.trees []) params given → given ≡ rows)
    → ShowsOf sql params db rows
shows_by sql params db q names rows = shows_such sql params db q names (λ given. given ≡ rows)

module _ (db : Database) (s : State) (keeps : Keeps s db) (name : Text) where
  abbrev roots : Roots
  roots = keeps.rows.roots

  abbrev of : AreOf s roots db.trees
  of = keeps.rows.of

  in_features : IsFound db.schema features_name (features roots.features)
  in_features = placing.features_found roots db keeps.rows.ours keeps.rows.sound

  in_collections : IsFound db.schema collections_name (collections roots.collections)
  in_collections = placing.collections_found roots db keeps.rows.ours keeps.rows.sound

  module _ (c : Collection) (collected : get s.collections name ≡ Some c) where
    only_chosen : (terms : List Term) (params : Row) (test : FeatureValue → Bool) → Chooses terms params name test → (given : List Row) →
        IsAnswerAs Null (page_query roots.features terms) (overlay db.trees []) params given → given ≡ map candidate_row (filter test (values c.features))
    only_chosen terms params test chooses given a = lists_chosen s roots db.trees of name c.features (λ q. sym (rw collected refl)) terms params test
        (λ r p f cells is. chooses r p f cells) in_features.low given a

    pub all_at : ShowsOf select_all (Words name ∷ []) db (map candidate_row (chosen_of None None c))
    all_at = shows_by select_all (Words name ∷ []) db (page_query roots.features (in_collection ∷ [])) (codes "body" ∷ []) _
        (select_all_means db.schema roots.features in_features) (select_all_never db.schema roots.features in_features db.trees name)
        (only_chosen (in_collection ∷ []) (Words name ∷ []) (is_chosen None None) (all_chooses name))

    pub box_at : (b : BoxValue) → ShowsOf select_in_box (Words name ∷ box_params b []) db (map candidate_row (chosen_of (Some b) None c))
    box_at b = shows_by select_in_box (Words name ∷ box_params b []) db (page_query roots.features (in_collection ∷ box_terms [])) (codes "body" ∷ []) _
        (select_in_box_means db.schema roots.features in_features) (select_in_box_never db.schema roots.features in_features db.trees name b.x1 b.x0 b.y1 b.y0)
        (only_chosen (in_collection ∷ box_terms []) (Words name ∷ box_params b []) (is_chosen (Some b) None) (box_chooses name b))

    pub time_at : (i : IntervalValue) → ShowsOf select_in_time (Words name ∷ time_params i) db (map candidate_row (chosen_of None (Some i) c))
    time_at i = shows_by select_in_time (Words name ∷ time_params i) db (page_query roots.features (in_collection ∷ time_terms 1)) (codes "body" ∷ []) _
        (select_in_time_means db.schema roots.features in_features) (select_in_time_never db.schema roots.features in_features db.trees name (last_second i.end)
        (first_second i.start))
        (only_chosen (in_collection ∷ time_terms 1) (Words name ∷ time_params i) (is_chosen None (Some i)) (time_chooses name i))

    pub both_at : (b : BoxValue) (i : IntervalValue) → ShowsOf select_in_both (Words name ∷ box_params b (time_params i)) db
        (map candidate_row (chosen_of (Some b) (Some i) c))
    both_at b i = shows_by select_in_both (Words name ∷ box_params b (time_params i)) db (page_query roots.features (in_collection ∷ box_terms (time_terms 5)))
        (codes "body" ∷ []) _ (select_in_both_means db.schema roots.features in_features)
        (select_in_both_never db.schema roots.features in_features db.trees name b.x1 b.x0 b.y1 b.y0 (last_second i.end) (first_second i.start))
        (only_chosen (in_collection ∷ box_terms (time_terms 5)) (Words name ∷ box_params b (time_params i)) (is_chosen (Some b) (Some i))
        (both_chooses name b i))

  -- the row of a collection
  pub collection_at : ShowsOf select_collection (Words name ∷ []) db (option_to_list (option_map collection_view (get s.collections name)))
  collection_at =
      let found = find (is_first name) (db.trees roots.collections) in
      shows_by select_collection (Words name ∷ []) db (over roots.collections one (col 1 2 ∷ col 1 3 ∷ [])) (codes "title" ∷ codes "time" ∷ []) _
      (select_collection_means db.schema roots.collections in_collections) (select_collection_never db.schema roots.collections in_collections db.trees
      name)
      (λ rows a. chosen db.trees roots.collections one (col 1 2 ∷ col 1 3 ∷ []) (Words name ∷ [])
      (staged db.trees roots.collections one (Words name ∷ []) in_collections.low) (is_first name)
      (λ r h. named_is name r (name_cell (first_key r) (get s.collections (first_key r)) r
      (cells_of first_key is_first first_is first_self _ (db.trees roots.collections) of.collections r h)))
      found (filter_one first_key is_first first_is first_self _ (db.trees roots.collections) of.collections name) rows a
      ∙ ap option_to_list (shown_as (collection_cells name) collection_view _ found (get s.collections name) (of.collections.found name) (λ r c same.
      let at : (n : ℕ) → column r (suc n) ≡ column (collection_cells name c) n = λ n. column_later r n ∙ ap (λ x. column x n) same in
      λ i. at 1 i ∷ at 2 i ∷ [])))

pub select_all_plain : (db : Database) (s : State) (keeps : Keeps s db) → IsPlain (understood db.schema select_all)
select_all_plain db s keeps = is_plain db.schema select_all 1 _ (select_all_means db.schema keeps.rows.roots.features
    (placing.features_found keeps.rows.roots db keeps.rows.ours keeps.rows.sound))

pub select_in_box_plain : (db : Database) (s : State) (keeps : Keeps s db) → IsPlain (understood db.schema select_in_box)
select_in_box_plain db s keeps = is_plain db.schema select_in_box 5 _ (select_in_box_means db.schema keeps.rows.roots.features
    (placing.features_found keeps.rows.roots db keeps.rows.ours keeps.rows.sound))

pub select_in_time_plain : (db : Database) (s : State) (keeps : Keeps s db) → IsPlain (understood db.schema select_in_time)
select_in_time_plain db s keeps = is_plain db.schema select_in_time 3 _ (select_in_time_means db.schema keeps.rows.roots.features
    (placing.features_found keeps.rows.roots db keeps.rows.ours keeps.rows.sound))

pub select_in_both_plain : (db : Database) (s : State) (keeps : Keeps s db) → IsPlain (understood db.schema select_in_both)
select_in_both_plain db s keeps = is_plain db.schema select_in_both 7 _ (select_in_both_means db.schema keeps.rows.roots.features
    (placing.features_found keeps.rows.roots db keeps.rows.ours keeps.rows.sound))

pub select_collection_plain : (db : Database) (s : State) (keeps : Keeps s db) → IsPlain (understood db.schema select_collection)
select_collection_plain db s keeps = is_plain db.schema select_collection 1 _ (select_collection_means db.schema keeps.rows.roots.collections
    (placing.collections_found keeps.rows.roots db keeps.rows.ours keeps.rows.sound))
