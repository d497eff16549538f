-- Our tables in a schema.
use Rattle.std.proofs.Common.{◌≡◌, ◌≢◌, ℕ, List, length, ap, arith}
use Rattle.sqlite.specs.Schema.{Schema}
use Rattle.sqlite.specs.Table.{Table}
use Rattle.sqlite.specs.Effect.{Database, IsDatabase}
use Rattle.sqlite_schema.specs.Names.{same_name}
use Rattle.sqlite_rules.specs.Lists.{Has}
use Rattle.sqlite_rules.proofs.ListLemmas.{has_found}
use Rattle.streetmap_rows.proofs.NamedTables.{IsFound, is_found, trees_differ}
use Rattle.streetmap_rows.specs.Tables.{Roots, IsNamed, IsOurs, meta, collections, batches, features, meta_name, collections_name, batches_name, features_name}

there : (schema : Schema) (name : List ℕ) (table : Table) → IsNamed schema name table → Has schema.tables table
there schema name table h = (has_found (λ (t : Table). same_name t.name name) schema.tables table h).0

module _ (roots : Roots) (schema : Schema) (ours : IsOurs roots schema) where
  pub meta_there : Has schema.tables (meta roots.meta)
  meta_there = there schema meta_name (meta roots.meta) ours.meta_is

  pub collections_there : Has schema.tables (collections roots.collections)
  collections_there = there schema collections_name (collections roots.collections) ours.collections_is

  pub batches_there : Has schema.tables (batches roots.batches)
  batches_there = there schema batches_name (batches roots.batches) ours.batches_is

  pub features_there : Has schema.tables (features roots.features)
  features_there = there schema features_name (features roots.features) ours.features_is

  apart : (s t : Table) → Has schema.tables s → Has schema.tables t → (length s.name ≡ length t.name → length s.name ≢ length t.name) → s.tree ≢ t.tree
  apart s t h k other = trees_differ schema s t ours.apart h k (λ same. other (ap length same) (ap length same))

  pub collections_features : roots.collections ≢ roots.features
  collections_features = apart (collections roots.collections) (features roots.features) collections_there features_there (λ e. omega (arith, e))

  pub meta_features : roots.meta ≢ roots.features
  meta_features = apart (meta roots.meta) (features roots.features) meta_there features_there (λ e. omega (arith, e))

  pub batches_features : roots.batches ≢ roots.features
  batches_features = apart (batches roots.batches) (features roots.features) batches_there features_there (λ e. omega (arith, e))

  pub meta_collections : roots.meta ≢ roots.collections
  meta_collections = apart (meta roots.meta) (collections roots.collections) meta_there collections_there (λ e. omega (arith, e))

  pub batches_collections : roots.batches ≢ roots.collections
  batches_collections = apart (batches roots.batches) (collections roots.collections) batches_there collections_there (λ e. omega (arith, e))

  pub meta_batches : roots.meta ≢ roots.batches
  meta_batches = apart (meta roots.meta) (batches roots.batches) meta_there batches_there (λ e. omega (arith, e))

module _ (roots : Roots) (db : Database) (ours : IsOurs roots db.schema) (sound : IsDatabase db) where
  pub meta_found : IsFound db.schema meta_name (meta roots.meta)
  meta_found = is_found db meta_name (meta roots.meta) sound ours.apart ours.meta_is

  pub collections_found : IsFound db.schema collections_name (collections roots.collections)
  collections_found = is_found db collections_name (collections roots.collections) sound ours.apart ours.collections_is

  pub batches_found : IsFound db.schema batches_name (batches roots.batches)
  batches_found = is_found db batches_name (batches roots.batches) sound ours.apart ours.batches_is

  pub features_found : IsFound db.schema features_name (features roots.features)
  features_found = is_found db features_name (features roots.features) sound ours.apart ours.features_is
