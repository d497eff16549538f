-- The four tables of format 2, as their texts define them, and a schema that has them.
use Rattle.std.specs.Prelude.{◌⊎◌, not, ◌≡◌, ℕ, true, false, [], ◌∷◌, codes, List, find, Some}
use Rattle.std.specs.List.{AllByRecursion, list_any, list_all}
use Rattle.sqlite.specs.Table.{Table}
use Rattle.sqlite.specs.Schema.{Schema}
use Rattle.sqlite_schema.specs.declared.schema.Index.{Index}
use Rattle.sqlite_schema.specs.declared.schema.Reference.{Reference}
use Rattle.sqlite_schema.specs.declared.schema.Action.TheVariants.{NoAction}
use Rattle.sqlite_schema.specs.Names.{same_name}
use Rattle.sqlite_schema.specs.Rules.{ParentKey, is_index_for}
use Rattle.sqlite_value.specs.Keys.{plain}
use Rattle.sqlite_trees.specs.Tree.{IsAscending}
use Rattle.sqlite_rules.specs.Lists.{Has}
use Rattle.streetmap_rows.specs.Shapes.{text_column, integer_column, plain_table}

abbrev pub meta_name : List ℕ
meta_name = codes "streetmap_meta"

abbrev pub collections_name : List ℕ
collections_name = codes "streetmap_collections"

abbrev pub features_name : List ℕ
features_name = codes "streetmap_features"

abbrev pub batches_name : List ℕ
batches_name = codes "streetmap_batches"

-- ---- the texts that make the tables

abbrev pub meta_text : List ℕ
meta_text = codes
    "CREATE TABLE streetmap_meta (name TEXT PRIMARY KEY, value INTEGER NOT NULL) STRICT"

abbrev pub collections_text : List ℕ
collections_text = codes
    "CREATE TABLE streetmap_collections (id TEXT PRIMARY KEY, title TEXT NOT NULL, time TEXT) STRICT"

abbrev pub batches_text : List ℕ
batches_text = codes
    "CREATE TABLE streetmap_batches (key TEXT PRIMARY KEY, body TEXT NOT NULL, opened INTEGER NOT NULL, inserted INTEGER NOT NULL, replaced INTEGER NOT NULL, deleted INTEGER NOT NULL, serial INTEGER NOT NULL UNIQUE) STRICT"

abbrev pub features_text : List ℕ
features_text = codes
    "CREATE TABLE streetmap_features (collection TEXT NOT NULL REFERENCES streetmap_collections(id), id TEXT NOT NULL, body TEXT NOT NULL, x0 INTEGER, y0 INTEGER, x1 INTEGER, y1 INTEGER, s0 INTEGER, s1 INTEGER, PRIMARY KEY (collection, id)) STRICT"

-- ---- the tables, each in its tree

abbrev pub meta : ℕ → Table
meta tree = plain_table meta_name tree (text_column (codes "name") true
    ∷ integer_column (codes "value") true ∷ []) (1 ∷ []) []

abbrev pub collections : ℕ → Table
collections tree = plain_table collections_name tree (text_column (codes "id") true
    ∷ text_column (codes "title") true ∷ text_column (codes "time") false ∷ []) (1 ∷ []) []

abbrev pub batches : ℕ → Table
batches tree =
    record (plain_table batches_name tree (text_column (codes "key") true
    ∷ text_column (codes "body") true ∷ integer_column (codes "opened") true
    ∷ integer_column (codes "inserted") true ∷ integer_column (codes "replaced") true
    ∷ integer_column (codes "deleted") true ∷ integer_column (codes "serial") true ∷ []) (1 ∷ [])
    [])
    { uniques = (1 ∷ []) ∷ (7 ∷ []) ∷ []; orders = plain ∷ plain ∷ [] }

-- the collection of a feature is an existing one
abbrev pub to_collections : Reference
to_collections = record {
  columns = 1 ∷ [];
  parent = collections_name;
  parent_columns = codes "id"
      ∷ [];
  on_delete = NoAction;
  on_update = NoAction;
  is_deferred = false;
}

abbrev pub features : ℕ → Table
features tree =
    plain_table features_name tree (text_column (codes "collection") true
    ∷ text_column (codes "id") true ∷ text_column (codes "body") true
    ∷ integer_column (codes "x0") false ∷ integer_column (codes "y0") false
    ∷ integer_column (codes "x1") false ∷ integer_column (codes "y1") false
    ∷ integer_column (codes "s0") false ∷ integer_column (codes "s1") false ∷ []) (1 ∷ 2 ∷ [])
    (to_collections ∷ [])

-- ---- a schema that has them

-- the trees that hold the rows of the tables
pub record Roots : Type 0 where
  pub meta : ℕ
  pub collections : ℕ
  pub batches : ℕ
  pub features : ℕ

-- the name finds this table
abbrev pub IsNamed : Schema → List ℕ → Table → Type 0
IsNamed schema name table = find (λ t. same_name t.name name) schema.tables ≡ Some table

-- the key of the collections, as a reference finds it
abbrev pub to_key : Roots → ParentKey
to_key roots = (roots.collections, 1 ∷ [], plain)

-- the index is over these columns, as a UNIQUE or a PRIMARY KEY makes it
abbrev pub IsKey : Index → List ℕ → Type 0
IsKey i columns = (i.columns ≡ columns) × (i.order ≡ plain)

-- The four names find our tables, anywhere in the schema; no index but their own is on them, and no
-- table refers to the features.
pub record IsOurs (roots : Roots) (schema : Schema) : Type 0 where
  pub meta_is : IsNamed schema meta_name (meta roots.meta)
  pub collections_is : IsNamed schema collections_name (collections roots.collections)
  pub batches_is : IsNamed schema batches_name (batches roots.batches)
  pub features_is : IsNamed schema features_name (features roots.features)
  pub apart : IsAscending (λ a b. a.tree ≡ b.tree → ⊥) schema.tables
  pub guarded : list_any (is_index_for (to_key roots)) schema.indexes ≡ true
  pub on_collections : (i : Index) → Has schema.indexes i → i.table ≡ roots.collections
      → IsKey i (1 ∷ [])
  pub on_batches : (i : Index) → Has schema.indexes i → i.table ≡ roots.batches → IsKey i (1 ∷ [])
      ⊎ IsKey i (7 ∷ [])
  pub on_features : (i : Index) → Has schema.indexes i → i.table ≡ roots.features
      → IsKey i (1 ∷ 2 ∷ [])
  pub alone : AllByRecursion (λ t.
      list_all (λ ref. not (same_name features_name ref.parent)) t.references ≡ true) schema.tables
