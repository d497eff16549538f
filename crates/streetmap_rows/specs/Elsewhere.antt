-- What a database has besides our four tables.
use Rattle.std.specs.Prelude.{◌≡◌, ◌≢◌, ℕ, Bool, false, List, [], ◌∷◌}
use Rattle.std.specs.List.{AllByRecursion, list_any}
use Rattle.sqlite.specs.Effect.{Database}
use Rattle.sqlite.specs.Table.{Table}
use Rattle.sqlite_schema.specs.Names.{same_name}
use Rattle.sqlite_rules.specs.Edit.{IsNoIndex}
use Rattle.sqlite_rules.specs.Lists.{Has}
use Rattle.streetmap_rows.specs.Tables.{meta_name, collections_name, batches_name, features_name}

-- it is one of our four names
abbrev pub is_our_name : List ℕ → Bool
is_our_name name = list_any (same_name name) (meta_name ∷ collections_name ∷ batches_name
    ∷ features_name ∷ [])

-- The schema is the same, each table under another name than our four has the same rows, and so has
-- each tree that is neither a table nor an index.
pub record IsSameElsewhere (old new : Database) : Type 0 where
  pub schema : new.schema ≡ old.schema
  pub tables : (t : Table) → Has old.schema.tables t → is_our_name t.name ≡ false
      → new.trees t.tree ≡ old.trees t.tree
  pub others : (tree : ℕ) → AllByRecursion (λ t. t.tree ≢ tree) old.schema.tables
      → IsNoIndex old.schema tree → new.trees tree ≡ old.trees tree
