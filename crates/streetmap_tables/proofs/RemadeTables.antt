-- The two tables made again: what exists then, step by step.
use Rattle.std.proofs.Common.{◌≡◌, ◌≢◌, ◌⊎◌, inl, inr, ℕ, List, [], ◌∷◌, length, map, true, false, cond, Option, Some, None, option_map, refl, sym, ap, subst}
use Rattle.std.proofs.Common.{◌∙◌, true≢false, arith}
use Rattle.std.specs.Prelude.{option_and_then}
use Rattle.std.specs.List.{list_any}
use Rattle.std.specs.Ordering.{eq_by_cmp}
use Rattle.std.specs.FinMap.{get, entries, get-entries, get-from_entries, get-empty, find}
use Rattle.std.specs.Cmp.Lexicographic.{nat_list_cmp_total}
use Rattle.std.proofs.lemmas.Bool.{ne_eqb, and_parts, not-true}
use Rattle.sqlite.specs.Schema.{Schema}
use Rattle.sqlite.specs.Table.{Table}
use Rattle.sqlite.specs.Effect.{Database}
use Rattle.sqlite_schema.specs.declared.schema.Index.{Index}
use Rattle.sqlite_schema.specs.Names.{same_name}
use Rattle.sqlite_schema.specs.Rules.{is_index_for}
use Rattle.sqlite_catalog.specs.Change.{next_tree}
use Rattle.sqlite_tied.specs.Compute.{everything}
use Rattle.sqlite_rules.specs.Lists.{Has}
use Rattle.sqlite_rules.proofs.ListLemmas.{all_has, test_has, has_found}
use Rattle.streetmap_batch.specs.Text.{Text, text_cmp}
use Rattle.streetmap_ledger.specs.State.{State, Collection}
use Rattle.streetmap_rows.specs.Holds.{KeyPair, first_key, is_first, pair_key, has_pair}
use Rattle.streetmap_rows.proofs.NamedTables.{trees_differ}
use Rattle.streetmap_rows.proofs.HeldKeys.{holds_same}
use Rattle.streetmap_rows.specs.Tables.{Roots, IsNamed, IsKey, to_key, meta, collections, batches, features, meta_name, collections_name, batches_name}
use Rattle.streetmap_rows.specs.Tables.{features_name}
use Rattle.streetmap_rows.specs.Rows.{feature_at, collection_cells}
use Rattle.streetmap_rows.specs.Representations.{HasTextNames, CanBeRead}
use Rattle.streetmap_tables.specs.Made.{Created}
use Rattle.streetmap_tables.specs.Creation.{HasRoom, LacksFormat, KeepsOtherTables}
use Rattle.streetmap_tables.proofs.OneTableMore.{is_sequence, references_none, room_after, named_kept, named_new, on_kept, on_new, any_kept, others_kept, below}
use Rattle.streetmap_tables.proofs.OneTableMore.{rows_kept}
use Rattle.streetmap_tables.proofs.OurTablesMade.{meta_alone, features_alone, same_meta, same_features}
use Rattle.streetmap_tables.proofs.PutFormat.{holds_none, meta_ours}
use Rattle.streetmap_tables.proofs.OtherTables.{others_then}
use Rattle.streetmap_tables.specs.Old.{WereOurs, KeepsOld, old_features}
use Rattle.streetmap_tables.specs.Drops.{CanGo, Dropped}
use Rattle.streetmap_tables.specs.Part.{bare, emptied}
use Rattle.streetmap_tables.proofs.TableDropped.{named_left, was_there, rows_left, others_left, index_was, any_left, room_left}
use Rattle.streetmap_rows.proofs.OtherTables.{features_ours}

-- ---- a state without its features

find_mapped : (q : Text) (es : List (Text × Collection)) → find text_cmp q (map (λ e. (e.0, bare e.1)) es) ≡ option_map bare (find text_cmp q es)
find_mapped q [] = refl
find_mapped q (e ∷ es) = elim (eq_by_cmp text_cmp q e.0) as (λ b. cond b (Some (bare e.1)) (find text_cmp q (map (λ x. (x.0, bare x.1)) es))
    ≡ option_map bare (cond b (Some e.1) (find text_cmp q es))) [
      | true ↦ refl
      | false ↦ find_mapped q es
    ]

pub get_emptied : (s : State) (name : Text) → get (emptied s).collections name ≡ option_map bare (get s.collections name)
get_emptied s name = get-from_entries nat_list_cmp_total (map (λ e. (e.0, bare e.1)) (entries s.collections)) name ∙ find_mapped name (entries s.collections)
    ∙ ap (option_map bare) (sym (get-entries s.collections name))

pub no_feature : (s : State) (p : KeyPair) → feature_at (emptied s) p ≡ None
no_feature s p = ap (option_and_then (λ (c : Collection). get c.features p.1)) (get_emptied s p.0) ∙ go (get s.collections p.0)
  where
    go : (o : Option Collection) → option_and_then (λ (c : Collection). get c.features p.1) (option_map bare o) ≡ None
    go None = refl
    go (Some c) = get-empty text_cmp p.1

same_heads : (s : State) (name : Text) → option_map (collection_cells name) (get (emptied s).collections name)
    ≡ option_map (collection_cells name) (get s.collections name)
same_heads s name = ap (option_map (collection_cells name)) (get_emptied s name) ∙ go (get s.collections name)
  where
    go : (o : Option Collection) → option_map (collection_cells name) (option_map bare o) ≡ option_map (collection_cells name) o
    go None = refl
    go (Some c) = refl

emptied_read : (s : State) → CanBeRead s → CanBeRead (emptied s)
emptied_read s readable = record {
  collections = λ name c h. go name c (get s.collections name) refl (sym (get_emptied s name) ∙ h);
  features = λ p f h. absurd (let e = sym (no_feature s p) ∙ h in cc);
}
  where
    go : (name : Text) (c : Collection) (o : Option Collection) → get s.collections name ≡ o → option_map bare o ≡ Some c → HasTextNames name c
    go name c None is h = absurd (cc)
    go name c (Some d) is h =
        let same : bare d ≡ c = cc in
        let r = readable.collections name d is in
        subst (HasTextNames name) same (record { id = r.id; title = r.title; time = r.time })

-- ---- the tables that stay

pub record IsRest (roots : Roots) (schema : Schema) : Type 0 where
  pub collections_is : IsNamed schema collections_name (collections roots.collections)
  pub batches_is : IsNamed schema batches_name (batches roots.batches)
  pub room : HasRoom schema
  pub guarded : list_any (is_index_for (to_key roots)) schema.indexes ≡ true
  pub on_collections : (i : Index) → Has schema.indexes i → i.table ≡ roots.collections → IsKey i (1 ∷ [])
  pub on_batches : (i : Index) → Has schema.indexes i → i.table ≡ roots.batches → IsKey i (1 ∷ []) ⊎ IsKey i (7 ∷ [])

there : (schema : Schema) (name : List ℕ) (t : Table) → IsNamed schema name t → Has schema.tables t
there schema name t h = (has_found (λ (u : Table). same_name u.name name) schema.tables t h).0

far : (schema : Schema) → HasRoom schema → (a b : List ℕ) (s t : Table) → IsNamed schema a s → IsNamed schema b t → (length s.name ≡ length t.name → ⊥) →
    s.tree ≢ t.tree
far schema room a b s t h k other = trees_differ schema s t room.apart (there schema a s h) (there schema b t k) (λ same. other (ap length same))

module _ (roots : Roots) (old new : Database) (rest : IsRest roots old.schema) (name : List ℕ) (table : Table) (named : IsNamed old.schema name table)
    (d : Dropped table old new) (own : is_sequence table ≡ false) (from_collections : roots.collections ≢ table.tree)
    (from_batches : roots.batches ≢ table.tree) where
  at : Has old.schema.tables table
  at = there old.schema name table named

  off : (i : Index) → is_index_for (to_key roots) i ≡ true → i.table ≢ table.tree
  off i h same = true≢false (sym (and_parts _ _ (and_parts _ _ (and_parts _ _ h).0).0).1
      ∙ ne_eqb i.table roots.collections (λ here. from_collections (sym here ∙ same)))

  rest_left : IsRest roots new.schema
  rest_left = record {
    collections_is = named_left old new table rest.room.apart at d collections_name _ rest.collections_is from_collections;
    batches_is = named_left old new table rest.room.apart at d batches_name _ rest.batches_is from_batches;
    room = room_left old new table rest.room.apart at d own rest.room;
    guarded = any_left old new table rest.room.apart at d (is_index_for (to_key roots)) off rest.guarded;
    on_collections = λ i h e. rest.on_collections i (index_was old new table rest.room.apart at d i h) e;
    on_batches = λ i h e. rest.on_batches i (index_was old new table rest.room.apart at d i h) e;
  }

  collections_left : new.trees roots.collections ≡ old.trees roots.collections
  collections_left = rows_left old new table rest.room.apart at d (collections roots.collections) (there old.schema collections_name _ rest.collections_is)
      from_collections

  batches_left : new.trees roots.batches ≡ old.trees roots.batches
  batches_left = rows_left old new table rest.room.apart at d (batches roots.batches) (there old.schema batches_name _ rest.batches_is) from_batches

module _ (roots : Roots) (old new : Database) (rest : IsRest roots old.schema) (table : Table) (c : Created table old new) (alone : references_none table)
    (uncounted : table.is_counted ≡ false) where
  rest_grown : IsRest roots new.schema
  rest_grown = record {
    collections_is = named_kept table old new c collections_name _ rest.collections_is;
    batches_is = named_kept table old new c batches_name _ rest.batches_is;
    room = room_after table old new c alone uncounted rest.room;
    guarded = any_kept table old new c _ rest.guarded;
    on_collections = on_kept table old new c roots.collections (λ i. IsKey i (1 ∷ [])) (below table old new c collections_name _ rest.collections_is)
        rest.on_collections;
    on_batches = on_kept table old new c roots.batches (λ i. IsKey i (1 ∷ []) ⊎ IsKey i (7 ∷ [])) (below table old new c batches_name _ rest.batches_is)
        rest.on_batches;
  }

  collections_grown : new.trees roots.collections ≡ old.trees roots.collections
  collections_grown = rows_kept table old new c collections_name (collections roots.collections) rest.collections_is

  batches_grown : new.trees roots.batches ≡ old.trees roots.batches
  batches_grown = rows_kept table old new c batches_name (batches roots.batches) rest.batches_is

-- ---- the four steps

features_own : (tree : ℕ) → is_sequence (old_features tree) ≡ false
unfolding everything
features_own tree = refl

meta_own : (tree : ℕ) → is_sequence (meta tree) ≡ false
unfolding everything
meta_own tree = refl

module _ (s : State) (d0 : Database) (keeps : KeepsOld s d0) where
  abbrev roots : Roots
  roots = keeps.roots

  ours : WereOurs roots d0.schema
  ours = keeps.ours

  rest0 : IsRest roots d0.schema
  rest0 = record {
    collections_is = ours.collections_is;
    batches_is = ours.batches_is;
    room = ours.room;
    guarded = ours.guarded;
    on_collections =
        ours.on_collections;
    on_batches = ours.on_batches;
  }

  pub features_go : CanGo d0.schema features_name (old_features roots.features)
  features_go = record {
    named = ours.features_is;
    uncounted = refl;
    free = λ t ref h known.
        not-true _ (test_has _ t.references ref (all_has _ d0.schema.tables t ours.room.alone h) known);
  }

  module _ (d1 : Database) (one : Dropped (old_features roots.features) d0 d1) where
    collections_off : roots.collections ≢ roots.features
    collections_off = far d0.schema ours.room collections_name features_name _ _ ours.collections_is ours.features_is (λ e. omega (arith, e))

    batches_off : roots.batches ≢ roots.features
    batches_off = far d0.schema ours.room batches_name features_name _ _ ours.batches_is ours.features_is (λ e. omega (arith, e))

    meta_off : roots.meta ≢ roots.features
    meta_off = far d0.schema ours.room meta_name features_name _ _ ours.meta_is ours.features_is (λ e. omega (arith, e))

    features_at : Has d0.schema.tables (old_features roots.features)
    features_at = there d0.schema features_name _ ours.features_is

    pub rest1 : IsRest roots d1.schema
    rest1 = rest_left roots d0 d1 rest0 features_name (old_features roots.features) ours.features_is one (features_own roots.features) collections_off
        batches_off

    meta1 : IsNamed d1.schema meta_name (meta roots.meta)
    meta1 = named_left d0 d1 (old_features roots.features) ours.room.apart features_at one meta_name _ ours.meta_is meta_off

    pub meta_goes : CanGo d1.schema meta_name (meta roots.meta)
    meta_goes = record {
      named = meta1;
      uncounted = refl;
      free = λ t ref h known. not-true _
          (test_has _ t.references ref (all_has _ d0.schema.tables t ours.free (was_there d0 d1 (old_features roots.features) ours.room.apart features_at one t
          h)) known);
    }

    module _ (d2 : Database) (two : Dropped (meta roots.meta) d1 d2) where
      collections_apart : roots.collections ≢ roots.meta
      collections_apart = far d1.schema rest1.room collections_name meta_name _ _ rest1.collections_is meta1 (λ e. omega (arith, e))

      batches_apart : roots.batches ≢ roots.meta
      batches_apart = far d1.schema rest1.room batches_name meta_name _ _ rest1.batches_is meta1 (λ e. omega (arith, e))

      pub rest2 : IsRest roots d2.schema
      rest2 = rest_left roots d1 d2 rest1 meta_name (meta roots.meta) meta1 two (meta_own roots.meta) collections_apart batches_apart

      module _ (d3 : Database) (three : Created (meta 0) d2 d3) where
        pub rest3 : IsRest roots d3.schema
        rest3 = rest_grown roots d2 d3 rest2 (meta 0) three meta_alone refl

        abbrev m : ℕ
        m = next_tree d2.schema

        meta3 : IsNamed d3.schema meta_name (meta m)
        meta3 = named_new (meta 0) d2 d3 three same_meta

        module _ (d4 : Database) (four : Created (features 0) d3 d4) where
          abbrev f : ℕ
          f = next_tree d3.schema

          abbrev now : Roots
          now = record { meta = m; collections = roots.collections; batches = roots.batches; features = f }

          rest4 : IsRest roots d4.schema
          rest4 = rest_grown roots d3 d4 rest3 (features 0) four features_alone refl

          collections_same : d4.trees roots.collections ≡ d0.trees roots.collections
          collections_same =
              collections_grown roots d3 d4 rest3 (features 0) four features_alone refl ∙ collections_grown roots d2 d3 rest2 (meta 0) three meta_alone refl
              ∙ collections_left roots d1 d2 rest1 meta_name (meta roots.meta) meta1 two (meta_own roots.meta) collections_apart batches_apart
              ∙ collections_left roots d0 d1 rest0 features_name (old_features roots.features) ours.features_is one (features_own roots.features)
              collections_off batches_off

          batches_same : d4.trees roots.batches ≡ d0.trees roots.batches
          batches_same =
              batches_grown roots d3 d4 rest3 (features 0) four features_alone refl ∙ batches_grown roots d2 d3 rest2 (meta 0) three meta_alone refl
              ∙ batches_left roots d1 d2 rest1 meta_name (meta roots.meta) meta1 two (meta_own roots.meta) collections_apart batches_apart
              ∙ batches_left roots d0 d1 rest0 features_name (old_features roots.features) ours.features_is one (features_own roots.features) collections_off
              batches_off

          pub lacks_format : LacksFormat (emptied s) d4
          lacks_format = record {
            roots = now;
            ours = record {
              meta_is = named_kept (features 0) d3 d4 four meta_name (meta m) meta3;
              collections_is = rest4.collections_is;
              batches_is = rest4.batches_is;
              features_is = named_new (features 0) d3 d4 four same_features;
              apart = rest4.room.apart;
              guarded = rest4.guarded;
              on_collections = rest4.on_collections;
              on_batches = rest4.on_batches;
              on_features = on_new (features 0) d3 d4 four three.sound (λ i. IsKey i (1 ∷ 2 ∷ []))
                  (λ i h. elim h [ inl e ↦ (ap (λ j. j.columns) e, ap (λ j. j.order) e) | inr none ↦ absurd none ]);
              alone = rest4.room.alone;
            };
            meta_empty = rows_kept (features 0) d3 d4 four meta_name (meta m) meta3 ∙ three.empty;
            collections = holds_same first_key is_first _ _ (d0.trees roots.collections) (d4.trees roots.collections) collections_same (same_heads s)
                keeps.of.collections;
            batches = holds_same first_key is_first _ _ (d0.trees roots.batches) (d4.trees roots.batches) batches_same (λ key. refl) keeps.of.batches;
            features = holds_none pair_key has_pair _ _ four.empty (λ p. rw (no_feature s p) refl);
            readable = emptied_read s keeps.readable;
          }

          pub others_remade : KeepsOtherTables d0 d4
          others_remade =
              others_then d0 d2 d4 (others_then d0 d1 d2 (others_left d0 d1 (old_features roots.features) ours.room.apart features_at one features_ours)
              (others_left d1 d2 (meta roots.meta) rest1.room.apart (there d1.schema meta_name _ meta1) two meta_ours))
              (others_then d2 d3 d4 (others_kept (meta 0) d2 d3 three) (others_kept (features 0) d3 d4 four))
