-- What the reads by a key answer.
use Rattle.std.proofs.Common.{◌≡◌, ◌⊎◌, inl, inr, ℕ, suc, List, [], ◌∷◌, length, codes, Bool, true, false, ◌&&◌, drop, find, Option, Some, None, option_map}
use Rattle.std.proofs.Common.{refl, sym, ap, subst, ◌∙◌, IsSome}
use Rattle.std.specs.List.{list_all}
use Rattle.std.specs.Option.{option_to_list}
use Rattle.std.specs.FinMap.{get}
use Rattle.std.specs.Cmp.{eq_by_cmp_equiv}
use Rattle.std.specs.Cmp.Lexicographic.{nat_list_cmp_total}
use Rattle.sqlite.specs.declared.types.Value.TheVariants.{Null, Text as Words}
use Rattle.sqlite.specs.declared.error.Error.{Error}
use Rattle.sqlite.specs.Order.{Row, column, bytes}
use Rattle.sqlite.specs.Term.{col, holds}
use Rattle.sqlite.specs.Schema.{Schema}
use Rattle.sqlite.specs.Command.TheVariants.{Select}
use Rattle.sqlite.specs.State.{State as Seen, Shown, IsUnchanged, ShowsRows, KeepsCommit, FailsToQuery, IsTooLate, CommitsShowing}
use Rattle.sqlite.specs.Listing.{understood}
use Rattle.sqlite.proofs.Callers.{reads_as, IsPlain}
use Rattle.sqlite_trees.specs.Tree.{Trees}
use Rattle.streetmap_batch.specs.Text.{Text}
use Rattle.streetmap_rows.specs.Holds.{KeyPair, pair_key, has_pair}
use Rattle.streetmap_geojson.specs.FeatureValue.{FeatureValue}
use Rattle.streetmap_ledger.specs.State.{State, AcceptedBatch}
use Rattle.streetmap_rows.specs.Tables.{Roots, collections, batches, features, collections_name, batches_name, features_name}
use Rattle.streetmap_rows.specs.Statements.{select_id, select_collection, select_batch}
use Rattle.streetmap_rows.specs.Holds.{first_key, is_first, same_text}
use Rattle.streetmap_rows.specs.Rows.{AreOf, feature_at, feature_cells, collection_cells, batch_cells}
use Rattle.streetmap_rows.specs.Representations.{StandsFor}
use Rattle.streetmap_rows.specs.Failures.{IsOfStore}
use Rattle.streetmap_rows.specs.Views.{kept_view, collection_view}
use Rattle.sqlite_schema.specs.declared.program.Program.{Program}
use Rattle.sqlite.specs.Effect.{RefusesQuery, Answers}
use Rattle.streetmap_rows.specs.Queries.{over, program}
use Rattle.streetmap_rows.proofs.NamedTables.{IsFound}
use Rattle.streetmap_rows.proofs.Resolving.{Means, command_is, is_plain, is_whole, unlisted}
use Rattle.streetmap_rows.proofs.Compiles.{one, both, select_id_means, select_id_never, select_collection_means, select_collection_never, select_batch_means}
use Rattle.streetmap_rows.proofs.Compiles.{select_batch_never}
use Rattle.streetmap_rows.proofs.TablesInSchema as placing
use Rattle.streetmap_rows.proofs.OneRowChosen.{chosen, shown_as, staged}
use Rattle.streetmap_rows.proofs.Deleting.{both_is, keys_of}
use Rattle.streetmap_rows.proofs.HeldKeys.{cells_of, filter_one}
use Rattle.streetmap_rows.proofs.TextKeys.{first_is, first_self, pair_is, pair_self, column_later, equal_texts}
use Rattle.streetmap_rows.proofs.PutCollection.{name_cell}
use Rattle.streetmap_rows.proofs.ReadFails.{reported, not_late}

-- a query that is plain leaves the connection as it was
pub shown_same : (sql : List ℕ) (params : Row) (old new : Seen) (rows : List Row) → IsPlain (understood old.now.schema sql) → Shown sql params old new rows →
    IsUnchanged old new
unfolding Shown
shown_same sql params old new rows plain h = (subst (ShowsRows old new sql h.0 _ rows) ((subst IsPlain h.1.is plain).0) h.2).3

-- a row whose first column is a text passes the test by name as it does in SQL
pub named_is : (name : Text) (r : Row) → column r 1 ≡ Words (bytes (column r 1)) → list_all (holds ((Words name ∷ []) ∷ r ∷ [])) one ≡ is_first name r
named_is name r words = rw (words, equal_texts (bytes (column r 1)) name) (last (same_text (bytes (column r 1)) name)
    ∙ (eq_by_cmp_equiv nat_list_cmp_total).symm (bytes (column r 1)) name)
  where
    last : (a : Bool) → (a && true) ≡ a
    last true = refl
    last false = refl

pub key_cell : (key : Text) (o : Option AcceptedBatch) (r : Row) → option_map (batch_cells key) o ≡ Some (drop 1 r) → column r 1 ≡ Words (bytes (column r 1))
key_cell key None r h = absurd (cc)
key_cell key (Some k) r h =
    let cells : batch_cells key k ≡ drop 1 r = cc in
    let words : column r 1 ≡ Words key = column_later r 0 ∙ ap (λ x. column x 0) (sym cells) in words ∙ ap (λ v. Words (bytes v)) (sym words)

-- ---- of any text that is a query

module _ (sql : List ℕ) (params : Row) (old new : Seen) (q : Program) (names : List (List ℕ)) (it : Means old.now.schema sql (length params) (Select q names))
  where
    abbrev schema : Schema
    schema = old.now.schema

    plain : IsPlain (understood schema sql)
    plain = is_plain schema sql (length params) _ it

    -- its rows are an answer, and nothing changed
    pub answered : (rows : List Row) → Shown sql params old new rows → Answers old.now q params rows × IsUnchanged old new
    answered rows h = (
      reads_as sql params old new schema refl (Select q names) (command_is schema sql (length params) _ it) plain (unlisted schema sql (length params) _ it)
          rows h,
      shown_same sql params old new rows plain h,
    )

    module _ (limit : old.step_limit ≡ None) (never : (e : Error) → RefusesQuery None old.now q params e → ⊥) where
      pub fails : (e : Error) → FailsToQuery sql params old new e → IsOfStore e × KeepsCommit old new
      fails = reported sql params old new schema refl q names (command_is schema sql (length params) _ it) plain (is_whole schema sql (length params) _ it)
          (unlisted schema sql (length params) _ it) limit never

      pub fails_inside : (e : Error) → FailsToQuery sql params old new e ⊎ IsTooLate sql params old new e → IsOfStore e × KeepsCommit old new
      fails_inside e (inl failed) = fails e failed
      fails_inside e (inr late) = absurd (not_late sql params old new schema refl q names (command_is schema sql (length params) _ it) plain
          (is_whole schema sql (length params) _ it) (unlisted schema sql (length params) _ it) limit never e late)

    -- it commits nothing
    pub commits_nothing : (trees : Trees) → CommitsShowing sql params old trees → ⊥
    unfolding CommitsShowing
    commits_nothing trees h = absurd (let none = subst IsSome ((subst IsPlain h.1.is plain).0) h.2 in cc)

-- ---- the reads by a key

module _ (old new : Seen) (s : State) (represented : StandsFor s old.now) where
  abbrev db : Trees
  db = old.now.trees

  abbrev roots : Roots
  roots = represented.roots

  abbrev of : AreOf s roots db
  of = represented.of

  in_features : IsFound old.now.schema features_name (features roots.features)
  in_features = placing.features_found roots old.now represented.ours represented.sound

  in_collections : IsFound old.now.schema collections_name (collections roots.collections)
  in_collections = placing.collections_found roots old.now represented.ours represented.sound

  in_batches : IsFound old.now.schema batches_name (batches roots.batches)
  in_batches = placing.batches_found roots old.now represented.ours represented.sound

  id_means : Means old.now.schema select_id 2 (Select (program (over roots.features both (col 1 2 ∷ []))) (codes "id" ∷ []))
  id_means = select_id_means old.now.schema roots.features in_features

  collection_means : Means old.now.schema select_collection 1 (Select (program (over roots.collections one (col 1 2 ∷ col 1 3 ∷ [])))
      (codes "title" ∷ codes "time" ∷ []))
  collection_means = select_collection_means old.now.schema roots.collections in_collections

  kept_means : Means old.now.schema select_batch 1 (Select (program (over roots.batches one (col 1 2 ∷ col 1 3 ∷ col 1 4 ∷ col 1 5 ∷ col 1 6 ∷ col 1 7 ∷ [])))
      (codes "body" ∷ codes "opened" ∷ codes "inserted" ∷ codes "replaced" ∷ codes "deleted" ∷ codes "serial" ∷ []))
  kept_means = select_batch_means old.now.schema roots.batches in_batches

  pub id_shown : (p : KeyPair) (rows : List Row) → Shown select_id (keys_of p) old new rows →
      (rows ≡ option_to_list (option_map (λ (f : FeatureValue). Words p.1 ∷ []) (feature_at s p))) × IsUnchanged old new
  id_shown p rows h =
      let read = answered select_id (keys_of p) old new _ _ id_means rows h in
      let found = find (has_pair p) (db roots.features) in (
        chosen db roots.features both (col 1 2 ∷ []) (keys_of p) (staged db roots.features both (keys_of p) in_features.low) (has_pair p)
            (both_is s roots db of p) found (filter_one pair_key has_pair pair_is pair_self _ (db roots.features) of.features p) rows (read.0.answer Null)
            ∙ ap option_to_list (shown_as (feature_cells p) (λ f. Words p.1 ∷ []) _ found (feature_at s p) (of.features.found p)
            (λ r f same. ap (λ v. v ∷ []) (column_later r 1 ∙ ap (λ x. column x 1) same))),
        read.1,
      )

  pub collection_shown : (name : Text) (rows : List Row) → Shown select_collection (Words name ∷ []) old new rows →
      (rows ≡ option_to_list (option_map collection_view (get s.collections name))) × IsUnchanged old new
  collection_shown name rows h =
      let read = answered select_collection (Words name ∷ []) old new _ _ collection_means rows h in
      let found = find (is_first name) (db roots.collections) in (
        chosen db roots.collections one (col 1 2 ∷ col 1 3 ∷ []) (Words name ∷ []) (staged db roots.collections one (Words name ∷ []) in_collections.low)
            (is_first name)
            (λ r h. named_is name r (name_cell (first_key r) (get s.collections (first_key r)) r
            (cells_of first_key is_first first_is first_self _ (db roots.collections) of.collections r h)))
            found (filter_one first_key is_first first_is first_self _ (db roots.collections) of.collections name) rows (read.0.answer Null)
            ∙ ap option_to_list (shown_as (collection_cells name) collection_view _ found (get s.collections name) (of.collections.found name) (λ r c same.
            let at : (n : ℕ) → column r (suc n) ≡ column (collection_cells name c) n = λ n. column_later r n ∙ ap (λ x. column x n) same in
            λ i. at 1 i ∷ at 2 i ∷ [])),
        read.1,
      )

  pub kept_shown : (key : Text) (rows : List Row) → Shown select_batch (Words key ∷ []) old new rows →
      (rows ≡ option_to_list (option_map kept_view (get s.keys key))) × IsUnchanged old new
  kept_shown key rows h =
      let read = answered select_batch (Words key ∷ []) old new _ _ kept_means rows h in
      let found = find (is_first key) (db roots.batches) in (
        chosen db roots.batches one (col 1 2 ∷ col 1 3 ∷ col 1 4 ∷ col 1 5 ∷ col 1 6 ∷ col 1 7 ∷ []) (Words key ∷ [])
            (staged db roots.batches one (Words key ∷ []) in_batches.low) (is_first key)
            (λ r h. named_is key r (key_cell (first_key r) (get s.keys (first_key r)) r (cells_of first_key is_first first_is first_self _ (db roots.batches)
            of.batches r h)))
            found (filter_one first_key is_first first_is first_self _ (db roots.batches) of.batches key) rows (read.0.answer Null)
            ∙ ap option_to_list (shown_as (batch_cells key) kept_view _ found (get s.keys key) (of.batches.found key) (λ r k same.
            let at : (n : ℕ) → column r (suc n) ≡ column (batch_cells key k) n = λ n. column_later r n ∙ ap (λ x. column x n) same in
            λ i. at 1 i ∷ at 2 i ∷ at 3 i ∷ at 4 i ∷ at 5 i ∷ at 6 i ∷ [])),
        read.1,
      )

  module _ (limit : old.step_limit ≡ None) where
    pub id_reported : (p : KeyPair) (e : Error) → FailsToQuery select_id (keys_of p) old new e ⊎ IsTooLate select_id (keys_of p) old new e → IsOfStore e
        × KeepsCommit old new
    id_reported p = fails_inside select_id (keys_of p) old new _ _ id_means limit (select_id_never old.now.schema roots.features in_features db p.0 p.1)

    pub collection_reported : (name : Text) (e : Error) → FailsToQuery select_collection (Words name ∷ []) old new e → IsOfStore e × KeepsCommit old new
    collection_reported name = fails select_collection (Words name ∷ []) old new _ _ collection_means limit
        (select_collection_never old.now.schema roots.collections in_collections db name)

    pub collection_reported_inside : (name : Text) (e : Error) → FailsToQuery select_collection (Words name ∷ []) old new e ⊎ IsTooLate select_collection
        (Words name ∷ []) old new e → IsOfStore e × KeepsCommit old new
    collection_reported_inside name = fails_inside select_collection (Words name ∷ []) old new _ _ collection_means limit
        (select_collection_never old.now.schema roots.collections in_collections db name)

    pub kept_reported : (key : Text) (e : Error) → FailsToQuery select_batch (Words key ∷ []) old new e → IsOfStore e × KeepsCommit old new
    kept_reported key = fails select_batch (Words key ∷ []) old new _ _ kept_means limit (select_batch_never old.now.schema roots.batches in_batches db key)

  pub kept_commits_nothing : (key : Text) (trees : Trees) → CommitsShowing select_batch (Words key ∷ []) old trees → ⊥
  kept_commits_nothing key = commits_nothing select_batch (Words key ∷ []) old new _ _ kept_means
