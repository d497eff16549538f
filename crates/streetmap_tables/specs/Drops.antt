-- What dropping a table does.
use Rattle.std.specs.Prelude.{◌≡◌, ◌≤◌, ℕ, List, [], length, false, Ok}
use Rattle.sqlite.specs.Table.{Table}
use Rattle.sqlite.specs.Schema.{Schema}
use Rattle.sqlite.specs.Effect.{Database, IsDatabase}
use Rattle.sqlite_ast.specs.declared.Statement.TheVariants as statement
use Rattle.sqlite_syntax.specs.declared.statement.Parsed.{Parsed}
use Rattle.sqlite_resolve.specs.Compile.{first}
use Rattle.sqlite_schema.specs.declared.schema.Reference.{Reference}
use Rattle.sqlite_schema.specs.Names.{same_name}
use Rattle.sqlite_catalog.specs.Change.{is_reserved, without_table, KeepsRows}
use Rattle.sqlite_rules.specs.Lists.{Has}
use Rattle.streetmap_rows.specs.Tables.{IsNamed}

-- the text is one DROP TABLE of this name, without IF EXISTS
pub record IsDropText (sql name : List ℕ) : Type 0 where
  pub parsed : Parsed
  pub is : first sql ≡ Ok parsed
  pub drops : parsed.statement ≡ statement.DropTable false name
  pub plain : parsed.formats ≡ []

-- the text is that alone, and has no parameter; the name is not one of SQLite's own
pub record IsDropAlone (sql name : List ℕ) : Type 0 where
  pub is : IsDropText sql name
  pub whole : length sql ≤ is.parsed.tail
  pub bare : 0 ≡ length is.parsed.names
  pub unreserved : is_reserved name ≡ false

-- the name finds the table, which does not count its rowids, and no table refers to it
pub record CanGo (schema : Schema) (name : List ℕ) (table : Table) : Type 0 where
  pub named : IsNamed schema name table
  pub uncounted : table.is_counted ≡ false
  pub free : (t : Table) (ref : Reference) → Has schema.tables t → Has t.references ref
      → same_name table.name ref.parent ≡ false

-- the table was dropped, with its indexes, and each other keeps its rows
pub record Dropped (table : Table) (old new : Database) : Type 0 where
  pub schema : new.schema ≡ without_table old.schema table.tree
  pub rows : KeepsRows new.schema.tables old.trees new.trees
  pub sound : IsDatabase new
