-- Format 1: the tables, and the rows of a state in them. It differs from format 2 in the number of
-- its format row, and in that the features have no extent and no seconds.
use Rattle.std.specs.Prelude.{◌≡◌, ◌⊎◌, ℕ, not, true, [], ◌∷◌, codes, Option}
use Rattle.std.specs.Prelude.{None, Some, option_map, pos, IsTrue, if◌then◌else◌}
use Rattle.std.specs.List.{AllByRecursion, list_any, list_all}
use Rattle.std.specs.FinMap.{get}
use Rattle.sqlite.specs.declared.types.Value.TheVariants.{Int, Text as Words}
use Rattle.sqlite.specs.Order.{Row}
use Rattle.sqlite.specs.Table.{Table}
use Rattle.sqlite.specs.Schema.{Schema}
use Rattle.sqlite.specs.Effect.{Database, IsDatabase}
use Rattle.sqlite.specs.State.{State as Seen}
use Rattle.sqlite_schema.specs.declared.schema.Index.{Index}
use Rattle.sqlite_schema.specs.Names.{same_name}
use Rattle.sqlite_schema.specs.Rules.{is_index_for}
use Rattle.sqlite_trees.specs.Tree.{Trees}
use Rattle.sqlite_rules.specs.Lists.{Has}
use Rattle.streetmap_geojson.specs.FeatureValue.{FeatureValue}
use Rattle.streetmap_batch.specs.Text.{Text}
use Rattle.streetmap_ledger.specs.State.{State}
use Rattle.streetmap_ledger.specs.WellFormed.{IsState}
use Rattle.streetmap_rows.specs.Holds.{HoldsByKey, same_text, first_key, is_first}
use Rattle.streetmap_rows.specs.Holds.{KeyPair, pair_key, has_pair}
use Rattle.streetmap_rows.specs.Shapes.{text_column, plain_table}
use Rattle.streetmap_rows.specs.Tables.{Roots, IsNamed, IsKey, to_key, to_collections, meta}
use Rattle.streetmap_rows.specs.Tables.{collections, batches, meta_name, collections_name}
use Rattle.streetmap_rows.specs.Tables.{batches_name, features_name}
use Rattle.streetmap_rows.specs.Rows.{feature_at, feature_text, collection_cells, batch_cells}
use Rattle.streetmap_rows.specs.Representations.{CanBeRead}
use Rattle.streetmap_tables.specs.Creation.{HasRoom}

-- ---- the tables

abbrev pub old_features : ℕ → Table
old_features tree = plain_table features_name tree (text_column (codes "collection") true
    ∷ text_column (codes "id") true ∷ text_column (codes "body") true ∷ []) (1 ∷ 2 ∷ [])
    (to_collections ∷ [])

-- The four names find the tables of format 1, anywhere in the schema; the tables leave room for new
-- ones, no index but their own is on the collections and on the batches, and no table refers to the
-- features or to the format.
pub record WereOurs (roots : Roots) (schema : Schema) : Type 0 where
  pub meta_is : IsNamed schema meta_name (meta roots.meta)
  pub collections_is : IsNamed schema collections_name (collections roots.collections)
  pub batches_is : IsNamed schema batches_name (batches roots.batches)
  pub features_is : IsNamed schema features_name (old_features roots.features)
  pub room : HasRoom schema
  pub guarded : list_any (is_index_for (to_key roots)) schema.indexes ≡ true
  pub on_collections : (i : Index) → Has schema.indexes i → i.table ≡ roots.collections
      → IsKey i (1 ∷ [])
  pub on_batches : (i : Index) → Has schema.indexes i → i.table ≡ roots.batches
      → IsKey i (1 ∷ []) ⊎ IsKey i (7 ∷ [])
  pub free : AllByRecursion (λ t.
      list_all (λ ref. not (same_name meta_name ref.parent)) t.references ≡ true) schema.tables

-- ---- the rows, after their rowids

-- the one row of the table of the format
abbrev pub old_meta_cells : Text → Option Row
old_meta_cells name = if same_text name (codes "format")
    then Some (Words (codes "format") ∷ Int (pos 1) ∷ []) else None

-- a feature: collection, id, text
abbrev pub old_cells : KeyPair → FeatureValue → Row
old_cells p f = Words p.0 ∷ Words p.1 ∷ Words (feature_text f) ∷ []

-- the format, and the three lists of a state, in the trees of the tables
pub record WereOf (s : State) (roots : Roots) (db : Trees) : Type 0 where
  pub format : HoldsByKey first_key is_first old_meta_cells (db roots.meta)
  pub collections : HoldsByKey first_key is_first (λ name.
      option_map (collection_cells name) (get s.collections name)) (db roots.collections)
  pub batches : HoldsByKey first_key is_first (λ key.
      option_map (batch_cells key) (get s.keys key)) (db roots.batches)
  pub features : HoldsByKey pair_key has_pair (λ p. option_map (old_cells p) (feature_at s p))
      (db roots.features)

-- ---- a database of a state

-- its tables are those of format 1, and their rows are those of the well-formed state
pub record KeepsOld (s : State) (db : Database) : Type 0 where
  pub well : IsState s
  pub roots : Roots
  pub ours : WereOurs roots db.schema
  pub of : WereOf s roots db.trees
  pub readable : CanBeRead s
  pub sound : IsDatabase db

-- an open connection between two transactions, whose database is that of the state in format 1
pub record RestsOld (seen : Seen) (s : State) : Type 0 where
  pub kept : KeepsOld s seen.now
  pub settled : seen.now ≡ seen.committed
  pub live : IsTrue seen.is_open
  pub unlimited : seen.step_limit ≡ None
