-- Making the tables of the opening state.
use Rattle.std.specs.Prelude.{◌≡◌, ◌⊎◌, ℕ, Bool, ◌||◌, not, true, false, [], List, codes, Ok, Err}
use Rattle.std.specs.Prelude.{Result, None, Some, option_map, IsTrue}
use Rattle.std.specs.List.{AllByRecursion, list_all}
use Rattle.sqlite.specs.Schema.{Schema}
use Rattle.sqlite.specs.Table.{Table}
use Rattle.sqlite.specs.Effect.{Database}
use Rattle.sqlite.specs.Does.{lacks_sequence}
use Rattle.sqlite.specs.State.{State as Seen}
use Rattle.sqlite.specs.declared.error.Error.{Error}
use Rattle.sqlite_schema.specs.Names.{same_name}
use Rattle.sqlite_trees.specs.Tree.{Trees, IsAscending}
use Rattle.sqlite_catalog.specs.Change.{is_used}
use Rattle.sqlite_rules.specs.Lists.{Has}
use Rattle.std.specs.FinMap.{get}
use Rattle.streetmap_ledger.specs.State.{State, opening_state}
use Rattle.streetmap_ledger.specs.Keep.{LeavesOnly}
use Rattle.streetmap_rows.specs.Tables.{Roots, IsOurs, meta_name, collections_name, batches_name}
use Rattle.streetmap_rows.specs.Tables.{features_name}
use Rattle.streetmap_rows.specs.Holds.{HoldsByKey, first_key, is_first, pair_key, has_pair}
use Rattle.streetmap_rows.specs.Rows.{feature_at, collection_cells, batch_cells, feature_cells}
use Rattle.streetmap_rows.specs.Representations.{CanBeRead}
use Rattle.streetmap_rows.specs.Elsewhere.{is_our_name}
use Rattle.streetmap_rows.specs.KeptStates.{Keeps, Rests, MayLeave}
use Rattle.streetmap_tables.specs.declared.creation.CreateFault.{CreateFault}
use Rattle.streetmap_tables.specs.declared.creation.CreateFault.TheVariants.{NotOurs, Taken}
use Rattle.streetmap_tables.specs.declared.creation.CreateFault.TheVariants.{Device, Memory}

-- a table, an index or a view has one of the four names
abbrev pub is_taken : Schema → Bool
is_taken schema = is_used schema meta_name
    || (is_used schema collections_name
    || (is_used schema batches_name || is_used schema features_name))

-- What is required of the existing tables: each has a tree of its own, none refers to the features,
-- and if one counts its rowids the table of counts exists, which SQLite makes beside it.
pub record HasRoom (schema : Schema) : Type 0 where
  pub apart : IsAscending (λ a b. a.tree ≡ b.tree → ⊥) schema.tables
  pub alone : AllByRecursion (λ t.
      list_all (λ ref. not (same_name features_name ref.parent)) t.references ≡ true) schema.tables
  pub counted : lacks_sequence schema ≡ false

-- an open connection between two transactions, with room for the tables
pub record IsReady (seen : Seen) : Type 0 where
  pub settled : seen.now ≡ seen.committed
  pub live : IsTrue seen.is_open
  pub unlimited : seen.step_limit ≡ None
  pub room : HasRoom seen.now.schema

-- the text of the format row
abbrev pub format_text : List ℕ
format_text = codes "INSERT INTO streetmap_meta (name, value) VALUES ('format', 2)"

-- the tables are ours, and have no row
pub record AreMade (db : Database) : Type 0 where
  pub roots : Roots
  pub ours : IsOurs roots db.schema
  pub meta_empty : db.trees roots.meta ≡ []
  pub collections_empty : db.trees roots.collections ≡ []
  pub batches_empty : db.trees roots.batches ≡ []
  pub features_empty : db.trees roots.features ≡ []

-- the tables are ours, and have all rows of a state but the format row
pub record LacksFormat (s : State) (db : Database) : Type 0 where
  pub roots : Roots
  pub ours : IsOurs roots db.schema
  pub meta_empty : db.trees roots.meta ≡ []
  pub collections : HoldsByKey first_key is_first (λ name.
      option_map (collection_cells name) (get s.collections name)) (db.trees roots.collections)
  pub batches : HoldsByKey first_key is_first (λ key. option_map (batch_cells key) (get s.keys key))
      (db.trees roots.batches)
  pub features : HoldsByKey pair_key has_pair (λ p. option_map (feature_cells p) (feature_at s p))
      (db.trees roots.features)
  pub readable : CanBeRead s

-- it has the database that it had
abbrev pub HasSame : Seen → Seen → Type 0
HasSame old new = (new.now ≡ old.now) × (new.committed ≡ old.committed)

-- every table that existed under another name than our four still exists, with the same definition
-- and the same rows
abbrev pub KeepsOtherTables : Database → Database → Type 0
KeepsOtherTables old new = (t : Table) → Has old.schema.tables t → is_our_name t.name ≡ false
    → Has new.schema.tables t × (new.trees t.tree ≡ old.trees t.tree)

-- a crash leaves what it could leave before, or the opening state
abbrev pub MayOpen : Seen → Seen → Type 0
MayOpen old new = (trees : Trees) → new.may_leave trees → old.may_leave trees
    ⊎ ((db : Database) × Keeps opening_state db × (trees ≡ db.trees))

-- the tables were made in one transaction, or it was rolled back
abbrev pub MakesAlone : Seen → Seen → Result (Unit {0}) Error → Type 0
MakesAlone old new (Ok _) = Rests new opening_state × KeepsOtherTables old.now new.now
MakesAlone old new (Err e) = IsTrue new.is_open → HasSame old new

-- The connection rests at the opening state, and a crash can leave it and no other; a refusal
-- leaves the database as it was.
abbrev pub Makes : Seen → Seen → Result (Unit {0}) CreateFault → Type 0
Makes old new (Ok _) = Rests new opening_state × MayLeave new (Some opening_state)
    × LeavesOnly (MayLeave new) (Some opening_state)
Makes old new (Err NotOurs) = ⊥
Makes old new (Err Taken) = Unit {0}
Makes old new (Err (Device e)) = IsTrue new.is_open → HasSame old new
Makes old new (Err Memory) = IsTrue new.is_open × HasSame old new
    × ((trees : Trees) → new.may_leave trees → old.may_leave trees)
    × ((trees : Trees) → old.may_leave trees → new.may_leave trees)
