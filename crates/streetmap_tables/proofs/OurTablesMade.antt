-- A schema with our four tables, one made after the other.
use Rattle.std.proofs.Common.{◌≡◌, ◌⊎◌, inl, inr, ℕ, [], ◌∷◌, refl, true, false, ap, ◌∙◌, eq-eqb}
use Rattle.std.specs.List.{list_any}
use Rattle.sqlite.specs.Effect.{Database}
use Rattle.sqlite_schema.specs.Names.{same_name}
use Rattle.sqlite_schema.specs.Rules.{is_index_for}
use Rattle.sqlite_catalog.specs.Change.{next_tree, created}
use Rattle.sqlite.specs.Schema.{Schema}
use Rattle.sqlite.specs.Does.{lacks_sequence}
use Rattle.sqlite_tied.specs.Compute.{everything}
use Rattle.streetmap_rows.specs.Tables.{Roots, IsNamed, IsKey, to_key, meta, collections, batches, features, meta_name, collections_name, batches_name}
use Rattle.streetmap_rows.specs.Tables.{features_name}
use Rattle.streetmap_tables.specs.Made.{Created}
use Rattle.streetmap_tables.specs.Creation.{HasRoom, AreMade}
use Rattle.streetmap_tables.proofs.OneTableMore.{references_none, OnTree, room_created, room_after, named_kept, named_new, on_kept, on_new, any_kept, any_new}
use Rattle.streetmap_tables.proofs.OneTableMore.{below, rows_kept}

pub meta_alone : references_none (meta 0)
meta_alone = refl

collections_alone : references_none (collections 0)
collections_alone = refl

batches_alone : references_none (batches 0)
batches_alone = refl

pub features_alone : references_none (features 0)
unfolding everything
features_alone = refl

pub same_meta : same_name meta_name meta_name ≡ true
unfolding everything
same_meta = refl

same_collections : same_name collections_name collections_name ≡ true
unfolding everything
same_collections = refl

same_batches : same_name batches_name batches_name ≡ true
unfolding everything
same_batches = refl

pub same_features : same_name features_name features_name ≡ true
unfolding everything
same_features = refl

module _ (none one : Database) (first : Created (meta 0) none one) (room : HasRoom none.schema) where
  pub room_one : HasRoom one.schema
  room_one = room_after (meta 0) none one first meta_alone refl room

  module _ (two : Database) (second : Created (collections 0) one two) where
    pub room_two : HasRoom two.schema
    room_two = room_after (collections 0) one two second collections_alone refl room_one

    module _ (three : Database) (third : Created (batches 0) two three) where
      pub room_three : HasRoom three.schema
      room_three = room_after (batches 0) two three third batches_alone refl room_two

      module _ (four : Database) (fourth : Created (features 0) three four) where
        abbrev m : ℕ
        m = next_tree none.schema

        abbrev c : ℕ
        c = next_tree one.schema

        abbrev b : ℕ
        b = next_tree two.schema

        abbrev f : ℕ
        f = next_tree three.schema

        abbrev placed : Roots
        placed = record { meta = m; collections = c; batches = b; features = f }

        room_four : HasRoom four.schema
        room_four = room_after (features 0) three four fourth features_alone refl room_three

        meta_one : IsNamed one.schema meta_name (meta m)
        meta_one = named_new (meta 0) none one first same_meta

        meta_two : IsNamed two.schema meta_name (meta m)
        meta_two = named_kept (collections 0) one two second meta_name (meta m) meta_one

        meta_three : IsNamed three.schema meta_name (meta m)
        meta_three = named_kept (batches 0) two three third meta_name (meta m) meta_two

        collections_two : IsNamed two.schema collections_name (collections c)
        collections_two = named_new (collections 0) one two second same_collections

        collections_three : IsNamed three.schema collections_name (collections c)
        collections_three = named_kept (batches 0) two three third collections_name (collections c) collections_two

        batches_three : IsNamed three.schema batches_name (batches b)
        batches_three = named_new (batches 0) two three third same_batches

        guards : list_any (is_index_for (to_key placed)) two.schema.indexes ≡ true
        unfolding everything
        guards = any_new (collections 0) one two second (is_index_for (to_key placed)) (rw (eq-eqb c c refl) refl)

        on_collections : OnTree two.schema c (λ i. IsKey i (1 ∷ []))
        on_collections = on_new (collections 0) one two second first.sound (λ i. IsKey i (1 ∷ []))
            (λ i h. elim h [ inl e ↦ (ap (λ j. j.columns) e, ap (λ j. j.order) e) | inr none ↦ absurd none ])

        on_batches : OnTree three.schema b (λ i. IsKey i (1 ∷ []) ⊎ IsKey i (7 ∷ []))
        on_batches = on_new (batches 0) two three third second.sound (λ i. IsKey i (1 ∷ []) ⊎ IsKey i (7 ∷ [])) (λ i h. elim h [
          | inl e ↦ inl (ap (λ j. j.columns) e, ap (λ j. j.order) e)
          | inr more ↦ elim more [ inl e ↦ inr (ap (λ j. j.columns) e, ap (λ j. j.order) e) | inr none ↦ absurd none ]
        ])

        on_features : OnTree four.schema f (λ i. IsKey i (1 ∷ 2 ∷ []))
        on_features = on_new (features 0) three four fourth third.sound (λ i. IsKey i (1 ∷ 2 ∷ []))
            (λ i h. elim h [ inl e ↦ (ap (λ j. j.columns) e, ap (λ j. j.order) e) | inr none ↦ absurd none ])

        pub are_made : AreMade four
        are_made = record {
          roots = placed;
          ours = record {
            meta_is = named_kept (features 0) three four fourth meta_name (meta m) meta_three;
            collections_is = named_kept (features 0) three four fourth collections_name (collections c) collections_three;
            batches_is = named_kept (features 0) three four fourth batches_name (batches b) batches_three;
            features_is = named_new (features 0) three four fourth same_features;
            apart = room_four.apart;
            guarded = any_kept (features 0) three four fourth _ (any_kept (batches 0) two three third _ guards);
            on_collections = on_kept (features 0) three four fourth c _ (below (features 0) three four fourth collections_name (collections c)
                collections_three)
                (on_kept (batches 0) two three third c _ (below (batches 0) two three third collections_name (collections c) collections_two) on_collections);
            on_batches = on_kept (features 0) three four fourth b _ (below (features 0) three four fourth batches_name (batches b) batches_three) on_batches;
            on_features = on_features;
            alone = room_four.alone;
          };
          meta_empty = rows_kept (features 0) three four fourth meta_name (meta m) meta_three
              ∙ rows_kept (batches 0) two three third meta_name (meta m) meta_two ∙ rows_kept (collections 0) one two second meta_name (meta m) meta_one
              ∙ first.empty;
          collections_empty = rows_kept (features 0) three four fourth collections_name (collections c) collections_three
              ∙ rows_kept (batches 0) two three third collections_name (collections c) collections_two ∙ second.empty;
          batches_empty = rows_kept (features 0) three four fourth batches_name (batches b) batches_three ∙ third.empty;
          features_empty = fourth.empty;
        }

-- ---- none of them counts its rowids

pub meta_counts : (schema : Schema) → HasRoom schema → lacks_sequence (created schema (meta 0)) ≡ false
meta_counts schema room = (room_created schema (meta 0) meta_alone refl room).counted

pub collections_counts : (schema : Schema) → HasRoom schema → lacks_sequence (created schema (collections 0)) ≡ false
collections_counts schema room = (room_created schema (collections 0) collections_alone refl room).counted

pub batches_counts : (schema : Schema) → HasRoom schema → lacks_sequence (created schema (batches 0)) ≡ false
batches_counts schema room = (room_created schema (batches 0) batches_alone refl room).counted

pub features_counts : (schema : Schema) → HasRoom schema → lacks_sequence (created schema (features 0)) ≡ false
features_counts schema room = (room_created schema (features 0) features_alone refl room).counted
