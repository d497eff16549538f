-- What the refusal of each table shows of the schema before all of them.
use Rattle.std.proofs.Common.{◌≡◌, ℕ, List, [], ◌∷◌, false, ◌||◌, inl, inr, refl, subst, subst₂, sym, ap, ◌∙◌}
use Rattle.std.proofs.lemmas.Bool.{or_parts}
use Rattle.sqlite.specs.Effect.{Database}
use Rattle.sqlite.specs.Table.{Table}
use Rattle.sqlite.specs.declared.error.Error.{Error}
use Rattle.sqlite_tied.specs.Compute.{everything}
use Rattle.sqlite_catalog.specs.Change.{is_used}
use Rattle.streetmap_rows.specs.Tables.{meta, collections, batches, features, meta_name, collections_name, batches_name, features_name}
use Rattle.streetmap_tables.specs.Made.{Created}
use Rattle.streetmap_tables.specs.Creation.{is_taken}
use Rattle.streetmap_tables.specs.CreationRefusals.{IsOurText, our_tables, IsCreateError}
use Rattle.streetmap_tables.proofs.CreateRefused.{IsAllowed}
use Rattle.streetmap_tables.proofs.Allowed.{meta_allowed, collections_allowed, batches_allowed, features_allowed}
use Rattle.streetmap_tables.proofs.FullSchemas.{IsOther, AreOther, used_same, reported_before, reported_first}

pub allowed_if_ours : (sql : List ℕ) (table : Table) → IsOurText sql table → IsAllowed sql table
allowed_if_ours sql table (inl it) = subst₂ IsAllowed (sym it.0) (sym it.1) meta_allowed
allowed_if_ours sql table (inr (inl it)) = subst₂ IsAllowed (sym it.0) (sym it.1) collections_allowed
allowed_if_ours sql table (inr (inr (inl it))) = subst₂ IsAllowed (sym it.0) (sym it.1) batches_allowed
allowed_if_ours sql table (inr (inr (inr it))) = subst₂ IsAllowed (sym it.0) (sym it.1) features_allowed

abbrev after_meta : List Table
after_meta = collections 0 ∷ batches 0 ∷ features 0 ∷ []

abbrev after_collections : List Table
after_collections = batches 0 ∷ features 0 ∷ []

abbrev after_batches : List Table
after_batches = features 0 ∷ []

-- ---- one of ours takes no name that a later one needs

meta_others : AreOther (meta 0) after_meta
unfolding everything
meta_others = (((refl, λ tree. refl), tt), (((refl, λ tree. refl), ((refl, λ tree. refl), tt)), (((refl, λ tree. refl), tt), tt)))

collections_others : AreOther (collections 0) after_collections
unfolding everything
collections_others = (((refl, λ tree. refl), ((refl, λ tree. refl), tt)), (((refl, λ tree. refl), tt), tt))

batches_others : AreOther (batches 0) after_batches
unfolding everything
batches_others = (((refl, λ tree. refl), tt), tt)

meta_names : IsOther (meta 0) collections_name × IsOther (meta 0) batches_name × IsOther (meta 0) features_name
unfolding everything
meta_names = ((refl, λ tree. refl), (refl, λ tree. refl), (refl, λ tree. refl))

collections_names : IsOther (collections 0) batches_name × IsOther (collections 0) features_name
unfolding everything
collections_names = ((refl, λ tree. refl), (refl, λ tree. refl))

batches_names : IsOther (batches 0) features_name
unfolding everything
batches_names = (refl, λ tree. refl)

-- ---- a table that was made

module _ (old new : Database) (table : Table) (made : Created table old new) where
  pub free_still : (name : List ℕ) → IsOther table name → is_used old.schema name ≡ false → is_used new.schema name ≡ false
  free_still name other free = ap (λ s. is_used s name) made.schema ∙ used_same old.schema table name other ∙ free

  pub reported_then : (tables : List Table) → AreOther table tables → (e : Error) → IsCreateError tables new.schema e →
      IsCreateError (table ∷ tables) old.schema e
  reported_then tables other e h = reported_before old.schema table tables other e (subst (λ s. IsCreateError tables s e) made.schema h)

-- ---- our four, one after the other

module _ (none : Database) (free : is_taken none.schema ≡ false) where
  of_meta : (is_used none.schema meta_name ≡ false) × (is_used none.schema collections_name
      || (is_used none.schema batches_name || is_used none.schema features_name) ≡ false)
  of_meta = or_parts (is_used none.schema meta_name) _ free

  of_collections : (is_used none.schema collections_name ≡ false) × (is_used none.schema batches_name || is_used none.schema features_name ≡ false)
  of_collections = or_parts (is_used none.schema collections_name) _ of_meta.1

  of_others : (is_used none.schema batches_name ≡ false) × (is_used none.schema features_name ≡ false)
  of_others = or_parts (is_used none.schema batches_name) _ of_collections.1

  pub meta_free : is_used none.schema meta_name ≡ false
  meta_free = of_meta.0

  pub reported_one : (e : Error) → IsCreateError (meta 0 ∷ []) none.schema e → IsCreateError our_tables none.schema e
  reported_one e h = reported_first none.schema (meta 0) after_meta e h

  module _ (one : Database) (first : Created (meta 0) none one) where
    pub collections_free : is_used one.schema collections_name ≡ false
    collections_free = free_still none one (meta 0) first collections_name meta_names.0 of_collections.0

    pub reported_two : (e : Error) → IsCreateError (collections 0 ∷ []) one.schema e → IsCreateError our_tables none.schema e
    reported_two e h = reported_then none one (meta 0) first after_meta meta_others e (reported_first one.schema (collections 0) after_collections e h)

    module _ (two : Database) (second : Created (collections 0) one two) where
      pub batches_free : is_used two.schema batches_name ≡ false
      batches_free = free_still one two (collections 0) second batches_name collections_names.0
          (free_still none one (meta 0) first batches_name meta_names.1 of_others.0)

      pub reported_three : (e : Error) → IsCreateError (batches 0 ∷ []) two.schema e → IsCreateError our_tables none.schema e
      reported_three e h = reported_then none one (meta 0) first after_meta meta_others e
          (reported_then one two (collections 0) second after_collections collections_others e (reported_first two.schema (batches 0) after_batches e h))

      module _ (three : Database) (third : Created (batches 0) two three) where
        pub features_free : is_used three.schema features_name ≡ false
        features_free = free_still two three (batches 0) third features_name batches_names
            (free_still one two (collections 0) second features_name collections_names.1
            (free_still none one (meta 0) first features_name meta_names.2 of_others.1))

        pub reported_four : (e : Error) → IsCreateError (features 0 ∷ []) three.schema e → IsCreateError our_tables none.schema e
        reported_four e h = reported_then none one (meta 0) first after_meta meta_others e
            (reported_then one two (collections 0) second after_collections collections_others e
            (reported_then two three (batches 0) third after_batches batches_others e h))
