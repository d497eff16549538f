-- The writes, from state to state.
use Rattle.std.proofs.Common.{◌≡◌, ◌≢◌, inl, inr, ℕ, ℤ, ◌+◌, ◌≤◌, pos, [], ◌∷◌, Option, Some, None, IfSome, Ok, Err, option_map, refl, sym, ap, subst, IsUtf8}
use Rattle.std.specs.List.{AllByRecursion}
use Rattle.std.specs.FinMap.{get, insert, remove, len}
use Rattle.sqlite.specs.declared.types.Value.TheVariants.{Text as Words}
use Rattle.sqlite.specs.declared.error.Error.{Error}
use Rattle.sqlite.specs.Order.{Row}
use Rattle.sqlite.specs.Values.{or_null}
use Rattle.sqlite.specs.Schema.{Schema}
use Rattle.sqlite.specs.Table.{Table}
use Rattle.sqlite.specs.Effect.{Database}
use Rattle.sqlite.specs.Command.TheVariants.{Delete}
use Rattle.sqlite.specs.Listing.{understood}
use Rattle.sqlite.specs.Does.{Does}
use Rattle.sqlite.specs.State.{State as Seen, mode_of, Executes, ExecutesInside}
use Rattle.sqlite.proofs.Callers.{statement_of, runs_as}
use Rattle.sqlite.proofs.StateLemmas.{refers_if_sound}
use Rattle.sqlite_schema.specs.declared.schema.Constraint.TheVariants.{Unique}
use Rattle.sqlite_schema.specs.declared.schema.Among.TheVariants.{All}
use Rattle.sqlite_schema.specs.Rules.{Keeps, Refers}
use Rattle.sqlite_trees.specs.Tree.{Trees}
use Rattle.streetmap_grid.specs.Values.{BoxValue}
use Rattle.streetmap_geojson.specs.FeatureValue.{FeatureValue}
use Rattle.streetmap_geojson.specs.FeatureInvariant.{IsFeature}
use Rattle.streetmap_batch.specs.Text.{Text}
use Rattle.streetmap_rows.specs.Holds.{KeyPair}
use Rattle.streetmap_ledger.specs.State.{State, Collection, AcceptedBatch, with_features, opened}
use Rattle.streetmap_rows.specs.Tables.{Roots, IsOurs, collections, meta, batches, features, collections_name, batches_name, features_name}
use Rattle.streetmap_rows.specs.Statements.{insert_collection, insert_feature, insert_batch, delete_feature}
use Rattle.streetmap_rows.specs.Rows.{AreOf, feature_cells, batch_cells, extent_in, seconds_in}
use Rattle.streetmap_rows.specs.Representations.{StandsFor}
use Rattle.streetmap_rows.specs.Elsewhere.{IsSameElsewhere}
use Rattle.streetmap_rows.specs.Failures.{IsOfStore}
use Rattle.streetmap_rows.proofs.ColumnCasts.{cast_null, cast_int, whole_null, word_null}
use Rattle.streetmap_rows.specs.Queries.{program}
use Rattle.streetmap_rows.proofs.NamedTables.{IsFound}
use Rattle.streetmap_rows.proofs.StoreErrors.{failure_is}
use Rattle.streetmap_rows.proofs.Resolving.{Means, command_is, is_plain, is_fit}
use Rattle.sqlite_rules.proofs.ListLemmas.{all_has}
use Rattle.sqlite_rules.specs.Lists.{Has}
use Rattle.streetmap_rows.proofs.Compiles as compile
use Rattle.streetmap_rows.proofs.TablesInSchema as placing
use Rattle.streetmap_rows.proofs.StatementParts.{went}
use Rattle.streetmap_rows.proofs.InsertOne.{concluded}
use Rattle.streetmap_rows.proofs.InsertRuns as run
use Rattle.streetmap_rows.proofs.InsertRuns.{never_misplaced, never_ends}
use Rattle.streetmap_rows.proofs.FixedRefused.{refused_as}
use Rattle.streetmap_rows.proofs.OtherTables.{same_elsewhere, collections_ours, batches_ours, features_ours}
use Rattle.streetmap_rows.proofs.PutCollection as collection
use Rattle.streetmap_rows.proofs.PutFeature as feature
use Rattle.streetmap_rows.proofs.PutBatch as batch
use Rattle.streetmap_rows.proofs.Deleting as cut
use Rattle.streetmap_rows.proofs.DeleteRuns as gone
use Rattle.streetmap_rows.proofs.Readable.{insert_read, delete_read, open_read, keep_read}

abbrev pub open_params : Text → Text → Option Text → Row
open_params name title time = Words name ∷ Words title ∷ or_null Words time ∷ []

module _ (old new : Seen) (s : State) (represented : StandsFor s old.now) (limit : old.step_limit ≡ None) where
  abbrev roots : Roots
  roots = represented.roots

  abbrev schema : Schema
  schema = old.now.schema

  abbrev ours : IsOurs roots schema
  ours = represented.ours

  abbrev db : Trees
  db = old.now.trees

  keeps : Keeps Unique schema db
  keeps = represented.sound.obeys.rules Unique

  was : Refers All schema db
  was = refers_if_sound _ _ represented.sound

  in_collections : IsFound schema collections_name (collections roots.collections)
  in_collections = placing.collections_found roots old.now ours represented.sound

  in_batches : IsFound schema batches_name (batches roots.batches)
  in_batches = placing.batches_found roots old.now ours represented.sound

  in_features : IsFound schema features_name (features roots.features)
  in_features = placing.features_found roots old.now ours represented.sound

  -- the other tables are as they were
  kept_rows : (next : Trees) (tree : ℕ) → AllByRecursion (λ t. t.tree ≢ tree → next t.tree ≡ db t.tree) schema.tables → (t : Table) → Has schema.tables t →
      t.tree ≢ tree → next t.tree ≡ db t.tree
  kept_rows next tree all t there other = all_has _ schema.tables t all there other

  -- ---- a collection
  module _ (name title : Text) (time : Option Text) (absent : get s.collections name ≡ None) where
    row : Row
    row = collection.row s schema roots ours db represented.of name title time absent

    pub open_represented : IsUtf8 name → IsUtf8 title → IfSome time IsUtf8 → (count : ℕ) →
        Executes insert_collection (open_params name title time) old new (Ok count) → StandsFor (opened s name title time) new.now
        × IsSameElsewhere old.now new.now
    unfolding row
    open_represented a b c count h =
        let r = run.inserted _ roots.collections _ _ _ _ _ in_collections.at compile.insert_collection_terms 4 insert_collection (open_params name title time)
        old new schema (row ∷ []) refl limit (command_is schema insert_collection 3 _
        (compile.insert_collection_means schema roots.collections in_collections))
        (is_plain schema insert_collection 3 _ (compile.insert_collection_means schema roots.collections in_collections))
        (is_fit schema insert_collection 3 _ (compile.insert_collection_means schema roots.collections in_collections) refl)
        (rw ((word_null time).classed) refl)
        in_collections.listed (rw (cast_null, (word_null time).cast_is) refl) count h in (
          record {
            roots = roots;
            ours = subst (IsOurs roots) (sym r.same_schema) ours;
            of = collection.of_after s schema roots ours db represented.of name title time absent new.now.trees r.step.rows
                (kept_rows new.now.trees roots.collections r.step.tables (meta roots.meta) (placing.meta_there roots schema ours)
                (placing.meta_collections roots schema ours)) (kept_rows new.now.trees roots.collections r.step.tables (batches roots.batches)
                (placing.batches_there roots schema ours) (placing.batches_collections roots schema ours))
                (kept_rows new.now.trees roots.collections r.step.tables (features roots.features) (placing.features_there roots schema ours)
                (λ e. placing.collections_features roots schema ours (sym e)));
            readable = open_read s name title time represented.readable a b c;
            sound = r.sound;
          },
          same_elsewhere old.now new.now _ _ ours.apart (placing.collections_there roots schema ours) collections_ours r.same_schema r.step,
        )

    pub open_reported : (e : Error) → ExecutesInside 0 insert_collection (open_params name title time) old new (Err e) → IsOfStore e
    unfolding row
    open_reported =
        run.reported _ roots.collections _ _ _ _ _ in_collections.at compile.insert_collection_terms 4 insert_collection (open_params name title time) old new
        schema (row ∷ []) refl limit (command_is schema insert_collection 3 _ (compile.insert_collection_means schema roots.collections in_collections))
        (is_plain schema insert_collection 3 _ (compile.insert_collection_means schema roots.collections in_collections))
        (is_fit schema insert_collection 3 _ (compile.insert_collection_means schema roots.collections in_collections) refl)
        (rw ((word_null time).classed) refl)
        in_collections.listed (rw (cast_null, (word_null time).cast_is) refl)
        (collection.only_rowid s schema roots ours db represented.of name title time absent keeps)
        (collection.refers s schema roots ours db represented.of name title time absent was)

  -- ---- a feature
  module _ (p : KeyPair) (c : Collection) (collected : get s.collections p.0 ≡ Some c) (f : FeatureValue) where
    x0 : Option ℤ
    x0 = option_map (λ (b : BoxValue). b.x0) (extent_in f)

    y0 : Option ℤ
    y0 = option_map (λ (b : BoxValue). b.y0) (extent_in f)

    x1 : Option ℤ
    x1 = option_map (λ (b : BoxValue). b.x1) (extent_in f)

    y1 : Option ℤ
    y1 = option_map (λ (b : BoxValue). b.y1) (extent_in f)

    s0 : Option ℤ
    s0 = option_map (λ (s : ℤ × ℤ). s.0) (seconds_in f)

    s1 : Option ℤ
    s1 = option_map (λ (s : ℤ × ℤ). s.1) (seconds_in f)

    module _ (new_id : get c.features p.1 ≡ None) where
      abbrev feature_row : Row
      feature_row = feature.row s schema roots ours db represented.of p c collected f new_id

      pub insert_represented : IsFeature f → (count : ℕ) → Executes insert_feature (feature_cells p f) old new (Ok count) →
          StandsFor (with_features s p.0 c (insert c.features p.1 f)) new.now × IsSameElsewhere old.now new.now
      unfolding x0 y0 x1 y1 s0 s1
      insert_represented fine count h =
          let r = run.inserted _ roots.features _ _ _ _ _ in_features.at compile.insert_feature_terms 10 insert_feature (feature_cells p f) old new schema
          (feature_row ∷ []) refl limit (command_is schema insert_feature 9 _ (compile.insert_feature_means schema roots.features in_features))
          (is_plain schema insert_feature 9 _ (compile.insert_feature_means schema roots.features in_features))
          (is_fit schema insert_feature 9 _ (compile.insert_feature_means schema roots.features in_features) refl)
          (rw (
            (whole_null x0).classed,
            (whole_null y0).classed,
            (whole_null x1).classed,
            (whole_null y1).classed,
            (whole_null s0).classed,
            (whole_null s1).classed,
          ) refl)
          in_features.listed (rw (
            cast_null,
            (whole_null x0).cast_is,
            (whole_null y0).cast_is,
            (whole_null x1).cast_is,
            (whole_null y1).cast_is,
            (whole_null s0).cast_is,
            (whole_null s1).cast_is,
          ) refl) count h in (
            record {
              roots = roots;
              ours = subst (IsOurs roots) (sym r.same_schema) ours;
              of = feature.of_after s schema roots ours db represented.of p c collected f new_id new.now.trees r.step.rows
                  (kept_rows new.now.trees roots.features r.step.tables (collections roots.collections) (placing.collections_there roots schema ours)
                  (placing.collections_features roots schema ours)) (kept_rows new.now.trees roots.features r.step.tables (meta roots.meta)
                  (placing.meta_there roots schema ours) (placing.meta_features roots schema ours))
                  (kept_rows new.now.trees roots.features r.step.tables (batches roots.batches) (placing.batches_there roots schema ours)
                  (placing.batches_features roots schema ours));
              readable = insert_read s represented.readable p.0 c collected p.1 f fine;
              sound = r.sound;
            },
            same_elsewhere old.now new.now _ _ ours.apart (placing.features_there roots schema ours) features_ours r.same_schema r.step,
          )

      pub insert_reported : (e : Error) → ExecutesInside 0 insert_feature (feature_cells p f) old new (Err e) → IsOfStore e
      unfolding x0 y0 x1 y1 s0 s1
      insert_reported =
          run.reported _ roots.features _ _ _ _ _ in_features.at compile.insert_feature_terms 10 insert_feature (feature_cells p f) old new schema
          (feature_row ∷ []) refl limit (command_is schema insert_feature 9 _ (compile.insert_feature_means schema roots.features in_features))
          (is_plain schema insert_feature 9 _ (compile.insert_feature_means schema roots.features in_features))
          (is_fit schema insert_feature 9 _ (compile.insert_feature_means schema roots.features in_features) refl)
          (rw (
            (whole_null x0).classed,
            (whole_null y0).classed,
            (whole_null x1).classed,
            (whole_null y1).classed,
            (whole_null s0).classed,
            (whole_null s1).classed,
          ) refl)
          in_features.listed (rw (
            cast_null,
            (whole_null x0).cast_is,
            (whole_null y0).cast_is,
            (whole_null x1).cast_is,
            (whole_null y1).cast_is,
            (whole_null s0).cast_is,
            (whole_null s1).cast_is,
          ) refl)
          (feature.only_rowid s schema roots ours db represented.of p c collected f new_id keeps)
          (feature.refers s schema roots ours db represented.of p c collected f new_id was)

    module _ (is : get c.features p.1 ≡ Some f) where
      abbrev deletes : Means schema delete_feature 2 (Delete in_features.at (program (cut.delete_query roots.features)))
      deletes = compile.delete_feature_means schema roots.features in_features

      pub delete_represented : (count : ℕ) → Executes delete_feature (cut.keys_of p) old new (Ok count) →
          StandsFor (with_features s p.0 c (remove c.features p.1)) new.now × IsSameElsewhere old.now new.now
      delete_represented count h =
          let w = runs_as delete_feature (cut.keys_of p) old new schema refl (Delete in_features.at (program (cut.delete_query roots.features)))
          (command_is schema delete_feature 2 _ deletes) (is_plain schema delete_feature 2 _ deletes) count h in
          let text = statement_of delete_feature (understood schema delete_feature) in
          let ran = subst (λ l. Does l (mode_of old) (cut.keys_of p) old.now text None (Delete in_features.at (program (cut.delete_query roots.features)))
          (Ok (w.tally, new.now))) limit w.changed in
          let done = went (gone.at_table s schema roots ours db represented.of p c collected f is in_features text (Ok (w.tally, new.now)) ran) in
          let end = concluded (gone.task_of s schema roots ours db represented.of p c collected f is in_features (mode_of old)) (mode_of old) done.0 w.tally
          new.now done.2 in
          let step = gone.made s schema roots ours db represented.of p c collected f is in_features (mode_of old) refl done.0 done.1 in
          let trees = ap (λ (x : Database). x.trees) end in (
            record {
              roots = roots;
              ours = subst (IsOurs roots) (sym (ap (λ (x : Database). x.schema) end)) ours;
              of = subst (AreOf (with_features s p.0 c (remove c.features p.1)) roots) (sym trees)
                  (cut.of_after s schema roots ours db represented.of p c collected f is done.0.trees step.rows
                  (kept_rows done.0.trees roots.features step.tables (collections roots.collections) (placing.collections_there roots schema ours)
                  (placing.collections_features roots schema ours)) (kept_rows done.0.trees roots.features step.tables (meta roots.meta)
                  (placing.meta_there roots schema ours) (placing.meta_features roots schema ours))
                  (kept_rows done.0.trees roots.features step.tables (batches roots.batches) (placing.batches_there roots schema ours)
                  (placing.batches_features roots schema ours)));
              readable = delete_read s represented.readable p.0 c collected p.1;
              sound = w.sound;
            },
            subst (λ d. IsSameElsewhere old.now d) (sym end) (same_elsewhere old.now (record { schema = schema; trees = done.0.trees }) _ _ ours.apart
                (placing.features_there roots schema ours) features_ours refl step),
          )

      pub delete_reported : (e : Error) → ExecutesInside 0 delete_feature (cut.keys_of p) old new (Err e) → IsOfStore e
      delete_reported e (inr ended) = absurd (never_ends delete_feature (cut.keys_of p) old schema _ refl (command_is schema delete_feature 2 _ deletes)
          (λ q. absurd (cc)) (λ q. absurd (cc)) (λ n q. absurd (cc)) (λ n q. absurd (cc)) ended.0)
      delete_reported e (inl h) =
          elim (refused_as delete_feature (cut.keys_of p) old new schema refl _ (command_is schema delete_feature 2 _ deletes)
          (is_plain schema delete_feature 2 _ deletes) (is_fit schema delete_feature 2 _ deletes refl) e h.0) [
            | inl refused ↦ elim refused.0 [
              | inl misplaced ↦ absurd (never_misplaced old _ e (λ q. absurd (cc)) (λ q. absurd (cc)) (λ q. absurd (cc)) (λ n q. absurd (cc))
                  (λ n q. absurd (cc)) misplaced)
              | inr done ↦ absurd (gone.never_refused s schema roots ours db represented.of p c collected f is in_features (mode_of old) old.now e
                  (statement_of delete_feature (understood schema delete_feature)) refl refl refl
                  keeps was (subst (λ l. Does l (mode_of old) (cut.keys_of p) old.now (statement_of delete_feature (understood schema delete_feature)) None
                  (Delete in_features.at (program (cut.delete_query roots.features))) (Err (Some e))) limit done))
            ]
            | inr failed ↦ failure_is e failed.1.0 failed.1.1
          ]

  -- ---- what is kept for a batch
  module _ (key : Text) (kept : AcceptedBatch) (absent : get s.keys key ≡ None) (next_serial : kept.serial ≡ len s.keys + 1)
      (counted : (q : Text) (k : AcceptedBatch) → get s.keys q ≡ Some k → k.serial ≤ len s.keys) where
    abbrev kept_row : Row
    kept_row = batch.row s schema roots ours db represented.of key kept absent next_serial counted

    pub keep_represented : (count : ℕ) → Executes insert_batch (batch_cells key kept) old new (Ok count) →
        StandsFor (record s { keys = insert s.keys key kept }) new.now × IsSameElsewhere old.now new.now
    keep_represented count h =
        let r = run.inserted _ roots.batches _ _ _ _ _ in_batches.at compile.insert_batch_terms 8 insert_batch (batch_cells key kept) old new schema
        (kept_row ∷ []) refl limit (command_is schema insert_batch 7 _ (compile.insert_batch_means schema roots.batches in_batches))
        (is_plain schema insert_batch 7 _ (compile.insert_batch_means schema roots.batches in_batches))
        (is_fit schema insert_batch 7 _ (compile.insert_batch_means schema roots.batches in_batches) refl)
        refl in_batches.listed (rw (
          cast_null,
          cast_int (pos kept.counts.opened),
          cast_int (pos kept.counts.inserted),
          cast_int (pos kept.counts.replaced),
          cast_int (pos kept.counts.deleted),
          cast_int (pos kept.serial),
        ) refl) count h in (
          record {
            roots = roots;
            ours = subst (IsOurs roots) (sym r.same_schema) ours;
            of = batch.of_after s schema roots ours db represented.of key kept absent next_serial counted new.now.trees r.step.rows
                (kept_rows new.now.trees roots.batches r.step.tables (collections roots.collections) (placing.collections_there roots schema ours)
                (λ e. placing.batches_collections roots schema ours (sym e))) (kept_rows new.now.trees roots.batches r.step.tables (meta roots.meta)
                (placing.meta_there roots schema ours) (placing.meta_batches roots schema ours))
                (kept_rows new.now.trees roots.batches r.step.tables (features roots.features) (placing.features_there roots schema ours)
                (λ e. placing.batches_features roots schema ours (sym e)));
            readable = keep_read s (insert s.keys key kept) represented.readable;
            sound = r.sound;
          },
          same_elsewhere old.now new.now _ _ ours.apart (placing.batches_there roots schema ours) batches_ours r.same_schema r.step,
        )

    pub keep_reported : (e : Error) → ExecutesInside 0 insert_batch (batch_cells key kept) old new (Err e) → IsOfStore e
    keep_reported =
        run.reported _ roots.batches _ _ _ _ _ in_batches.at compile.insert_batch_terms 8 insert_batch (batch_cells key kept) old new schema (kept_row ∷ [])
        refl limit (command_is schema insert_batch 7 _ (compile.insert_batch_means schema roots.batches in_batches))
        (is_plain schema insert_batch 7 _ (compile.insert_batch_means schema roots.batches in_batches))
        (is_fit schema insert_batch 7 _ (compile.insert_batch_means schema roots.batches in_batches) refl)
        refl in_batches.listed (rw (
          cast_null,
          cast_int (pos kept.counts.opened),
          cast_int (pos kept.counts.inserted),
          cast_int (pos kept.counts.replaced),
          cast_int (pos kept.counts.deleted),
          cast_int (pos kept.serial),
        ) refl)
        (batch.only_rowid s schema roots ours db represented.of key kept absent next_serial counted keeps)
        (batch.refers s schema roots ours db represented.of key kept absent next_serial counted was)
