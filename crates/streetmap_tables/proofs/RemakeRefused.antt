-- Why the two tables may not be made again, by the schema before.
use Rattle.std.proofs.Common.{◌≡◌, false, inl, inr, List, [], ◌∷◌, ap, subst, ◌∙◌, refl}
use Rattle.sqlite.specs.Effect.{Database}
use Rattle.sqlite.specs.Table.{Table}
use Rattle.sqlite.specs.declared.error.Error.{Error}
use Rattle.sqlite_catalog.specs.Change.{is_used, without_table}
use Rattle.sqlite_tied.specs.Compute.{everything}
use Rattle.streetmap_ledger.specs.State.{State}
use Rattle.streetmap_rows.specs.Tables.{meta, features, meta_name, features_name}
use Rattle.streetmap_tables.specs.Made.{Created}
use Rattle.streetmap_tables.specs.CreationRefusals.{IsFullFor, IsCreateError}
use Rattle.streetmap_tables.proofs.FullSchemas.{IsOther, AreOther, reported_first}
use Rattle.streetmap_tables.proofs.Refusals.{free_still, reported_then}
use Rattle.streetmap_tables.specs.Old.{KeepsOld, old_features}
use Rattle.streetmap_tables.specs.Drops.{Dropped}
use Rattle.streetmap_tables.specs.Migration.{IsMigrationError}
use Rattle.streetmap_tables.proofs.FreedNames.{free_left, freed}
use Rattle.streetmap_tables.proofs.RemadeTables.{meta_goes}

abbrev after_meta : List Table
after_meta = features 0 ∷ []

meta_others : AreOther (meta 0) after_meta
unfolding everything
meta_others = (((refl, λ tree. refl), tt), tt)

meta_name_other : IsOther (meta 0) features_name
unfolding everything
meta_name_other = (refl, λ tree. refl)

module _ (s : State) (d0 : Database) (keeps : KeepsOld s d0) (d1 : Database) (one : Dropped (old_features keeps.roots.features) d0 d1) (d2 : Database)
    (two : Dropped (meta keeps.roots.meta) d1 d2) where
  pub meta_free : is_used d2.schema meta_name ≡ false
  meta_free = freed d1 d2 (meta keeps.roots.meta) two meta_name one.sound (meta_goes s d0 keeps d1 one).named

  less : d2.schema ≡ without_table (without_table d0.schema keeps.roots.features) keeps.roots.meta
  less = two.schema ∙ ap (λ x. without_table x keeps.roots.meta) one.schema

  reported_less : (e : Error) → IsCreateError (meta 0 ∷ after_meta) d2.schema e → IsMigrationError d0.schema e
  reported_less e (inl store) = inl store
  reported_less e (inr full) = inr (keeps.roots, keeps.ours, subst (λ x. IsFullFor (meta 0 ∷ after_meta) x e) less full)

  pub reported_meta : (e : Error) → IsCreateError (meta 0 ∷ []) d2.schema e → IsMigrationError d0.schema e
  reported_meta e h = reported_less e (reported_first d2.schema (meta 0) after_meta e h)

  module _ (d3 : Database) (three : Created (meta 0) d2 d3) where
    pub features_free : is_used d3.schema features_name ≡ false
    features_free = free_still d2 d3 (meta 0) three features_name meta_name_other (free_left d1 d2 (meta keeps.roots.meta) two features_name
        (freed d0 d1 (old_features keeps.roots.features) one features_name keeps.sound keeps.ours.features_is))

    pub reported_features : (e : Error) → IsCreateError (features 0 ∷ []) d3.schema e → IsMigrationError d0.schema e
    reported_features e h = reported_less e (reported_then d2 d3 (meta 0) three after_meta meta_others e h)
