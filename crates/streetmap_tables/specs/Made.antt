-- The effect of making a table.
use Rattle.std.specs.Prelude.{◌≡◌, ℕ, List, [], false, None, Ok}
use Rattle.sqlite.specs.Table.{Table}
use Rattle.sqlite.specs.Effect.{Database, IsDatabase}
use Rattle.sqlite.specs.State.{text_of}
use Rattle.sqlite.specs.Command.TheVariants.{CreateTable}
use Rattle.sqlite_ast.specs.declared.CreateTable.{CreateTable as Written}
use Rattle.sqlite_ast.specs.declared.Statement.TheVariants as statement
use Rattle.sqlite_syntax.specs.declared.statement.Parsed.{Parsed}
use Rattle.sqlite_resolve.specs.declared.compiled.Compiled.{Compiled}
use Rattle.sqlite_resolve.specs.Compile.{first, table_defined_by}
use Rattle.sqlite_catalog.specs.Change.{next_tree, created, is_used, KeepsRows}

-- the statement that a text which makes a table compiles to
abbrev pub creating : Parsed → Compiled
creating p = record {
  command = CreateTable;
  returning = None;
  names = p.names;
  formats = [];
  start
      = p.start;
  end = p.end;
  tail = p.tail;
}

-- The text is one CREATE TABLE without IF NOT EXISTS, and defines this table.
pub record IsTableText (sql : List ℕ) (table : Table) : Type 0 where
  pub parsed : Parsed
  pub is : first sql ≡ Ok parsed
  pub written : Written
  pub makes : parsed.statement ≡ statement.CreateTable written
  pub fresh : written.if_missing ≡ false
  pub plain : parsed.formats ≡ []
  pub whole : text_of sql (creating parsed) ≡ sql
  pub defined : table_defined_by sql ≡ Ok table

-- a table was made, with no row, and nothing else changed
pub record Created (table : Table) (old new : Database) : Type 0 where
  pub free : is_used old.schema table.name ≡ false
  pub schema : new.schema ≡ created old.schema table
  pub empty : new.trees (next_tree old.schema) ≡ []
  pub others : KeepsRows old.schema.tables old.trees new.trees
  pub sound : IsDatabase new
