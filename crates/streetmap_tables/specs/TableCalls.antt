-- What the statements that make and drop tables mean, inside a transaction.
use Rattle.std.specs.Prelude.{◌≡◌, ℕ, List, [], ◌∷◌, false, None, Result, IfErr, OnOk, IsTrue}
use Rattle.sqlite.specs.declared.error.Error.{Error}
use Rattle.sqlite.specs.Does.{lacks_sequence}
use Rattle.sqlite.specs.Effect.{IsDatabase}
use Rattle.sqlite.specs.State.{State as Seen}
use Rattle.sqlite.specs.Table.{Table}
use Rattle.sqlite_catalog.specs.Change.{created, is_used}
use Rattle.sqlite_trees.specs.Tree.{IsAscending}
use Rattle.streetmap_ledger.specs.State.{State, opening_state}
use Rattle.streetmap_rows.specs.Elsewhere.{IsSameElsewhere}
use Rattle.streetmap_rows.specs.Failures.{IsOfStore}
use Rattle.streetmap_rows.specs.KeptStates.{Keeps}
use Rattle.streetmap_rows.specs.Representations.{StandsFor}
use Rattle.streetmap_tables.specs.Creation.{is_taken, HasRoom, LacksFormat, KeepsOtherTables}
use Rattle.streetmap_tables.specs.CreationRefusals.{IsOurText, our_tables, IsCreateError}
use Rattle.streetmap_tables.specs.Drops.{IsDropText, IsDropAlone, CanGo, Dropped}
use Rattle.streetmap_tables.specs.Made.{IsTableText, Created}
use Rattle.streetmap_tables.specs.Migration.{IsMigrationError, Remakes}
use Rattle.streetmap_tables.specs.Old.{KeepsOld}

-- a table is made by its text; that of one of our tables, whose name is free, is refused only if
-- the store fails or the schema has no place for the table
pub record CreatesTable (sql : List ℕ) (old new : Seen) (result : Result (Unit {0}) Error)
    : Type 0 where
  pub makes : IsTrue old.in_transaction → (table : Table) → IsTableText sql table
      → lacks_sequence (created old.now.schema table) ≡ false
      → OnOk result (Created table old.now new.now)
  pub reported : IsTrue old.in_transaction → (table : Table) → IsOurText sql table
      → is_used old.now.schema table.name ≡ false
      → lacks_sequence (created old.now.schema table) ≡ false
      → IfErr result (IsCreateError (table ∷ []) old.now.schema)

-- the row of format 2 is inserted into tables that have every other row of a state
pub record InsertsFormat (old new : Seen) (result : Result (Unit {0}) Error) : Type 0 where
  pub put : IsTrue old.in_transaction → old.step_limit ≡ None → (s : State)
      → LacksFormat s old.now → IsDatabase old.now
      → OnOk result (StandsFor s new.now × IsSameElsewhere old.now new.now)
  pub reported : IsTrue old.in_transaction → old.step_limit ≡ None → (s : State)
      → LacksFormat s old.now → IsDatabase old.now → IfErr result IsOfStore

-- the four tables and the format row are made, if the tables have room
pub record MakesInside (old new : Seen) (result : Result (Unit {0}) Error) : Type 0 where
  pub made : IsTrue old.in_transaction → old.step_limit ≡ None → HasRoom old.now.schema
      → OnOk result (Keeps opening_state new.now × KeepsOtherTables old.now new.now)
  pub reported : IsTrue old.in_transaction → old.step_limit ≡ None → HasRoom old.now.schema
      → is_taken old.now.schema ≡ false → IfErr result (IsCreateError our_tables old.now.schema)

-- a table is dropped by its text, and is refused only if the store fails
pub record DropsTable (sql : List ℕ) (old new : Seen) (result : Result (Unit {0}) Error)
    : Type 0 where
  pub dropped : IsTrue old.in_transaction → (name : List ℕ) → (table : Table)
      → IsDropText sql name → CanGo old.now.schema name table
      → OnOk result (Dropped table old.now new.now)
  pub reported : IsTrue old.in_transaction → (name : List ℕ) → (table : Table)
      → IsDropAlone sql name → CanGo old.now.schema name table
      → IsAscending (λ a b. a.tree ≡ b.tree → ⊥) old.now.schema.tables → IsDatabase old.now
      → IfErr result IsOfStore

-- the tables of the features and of the format are dropped, and made in format 2
pub record RemakesTables (old new : Seen) (result : Result (Unit {0}) Error) : Type 0 where
  pub made : IsTrue old.in_transaction → old.step_limit ≡ None → OnOk result (Remakes old new)
  pub reported : IsTrue old.in_transaction → old.step_limit ≡ None → (s : State)
      → KeepsOld s old.now → IfErr result (IsMigrationError old.now.schema)
