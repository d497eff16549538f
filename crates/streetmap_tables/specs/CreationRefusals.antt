-- Why tables may not be made.
use Rattle.std.specs.Prelude.{◌≡◌, ◌⊎◌, ℕ, ◌+◌, ◌<◌, List, [], ◌∷◌, length, IsTrue}
use Rattle.sqlite.specs.Table.{Table}
use Rattle.sqlite.specs.Schema.{Schema}
use Rattle.sqlite.specs.declared.error.Error.{Error}
use Rattle.sqlite.specs.declared.error.Error.TheVariants.{SqliteFailure}
use Rattle.sqlite.specs.declared.error.ErrorCode.TheVariants.{NameTaken, SchemaTooBig}
use Rattle.sqlite_schema.specs.declared.schema.Index.{Index}
use Rattle.sqlite_catalog.specs.Change.{next_tree, is_used, automatics}
use Rattle.sqlite_rules.specs.Lists.{Has}
use Rattle.sqlite.specs.State.{State as Seen}
use Rattle.streetmap_rows.specs.Failures.{IsOfStore, HasReason}
use Rattle.streetmap_tables.specs.declared.creation.CreateFault.{CreateFault}
use Rattle.streetmap_tables.specs.declared.creation.CreateFault.TheVariants.{NotOurs, Taken}
use Rattle.streetmap_tables.specs.declared.creation.CreateFault.TheVariants.{Device, Memory}
use Rattle.streetmap_rows.specs.Tables.{meta, meta_text, collections, collections_text, batches}
use Rattle.streetmap_rows.specs.Tables.{batches_text, features, features_text}

-- a table of ours, and the text that makes it
abbrev pub IsOurText : List ℕ → Table → Type 0
IsOurText sql table =
    ((sql ≡ meta_text) × (table ≡ meta 0))
    ⊎ (((sql ≡ collections_text) × (table ≡ collections 0))
    ⊎ (((sql ≡ batches_text) × (table ≡ batches 0))
    ⊎ ((sql ≡ features_text) × (table ≡ features 0))))

abbrev pub our_tables : List Table
our_tables = meta 0 ∷ collections 0 ∷ batches 0 ∷ features 0 ∷ []

-- the indexes that SQLite makes for the keys of a table
abbrev pub key_indexes : Table → List Index
key_indexes table = automatics table 0 0 table.uniques

-- the number of trees that tables take, with those indexes
abbrev pub trees_for : List Table → ℕ
trees_for [] = 0
trees_for (t ∷ tables) = 1 + length t.uniques + trees_for tables

-- a schema has no place for tables whose names are free: it would number more than 65536 trees, or
-- something has the name of one of those indexes
abbrev pub IsFullFor : List Table → Schema → Error → Type 0
IsFullFor tables schema e =
    ((e ≡ SqliteFailure SchemaTooBig) × (65536 < next_tree schema + trees_for tables))
    ⊎ ((e ≡ SqliteFailure NameTaken) × (t : Table) × Has tables t × (index : Index)
    × Has (key_indexes t) index × IsTrue (is_used schema index.name))

-- why these tables are not made: the store failed, or the schema has no place for them
abbrev pub IsCreateError : List Table → Schema → Error → Type 0
IsCreateError tables schema e = IsOfStore e ⊎ IsFullFor tables schema e

-- what is returned if the tables were not made: never that they are in no database
abbrev pub IsReturned : Schema → CreateFault → Type 0
IsReturned schema NotOurs = ⊥
IsReturned schema Taken = Unit {0}
IsReturned schema (Device e) = IsCreateError our_tables schema e
IsReturned schema Memory = Unit {0}

-- an error of the store that is returned arose between these two for a reason
abbrev pub IsReasoned : Seen → Seen → CreateFault → Type 0
IsReasoned old new NotOurs = ⊥
IsReasoned old new Taken = Unit {0}
IsReasoned old new (Device e) = HasReason old new e
IsReasoned old new Memory = Unit {0}
