-- Format 1 is migrated to format 2.
use Rattle.std.specs.Prelude.{◌≡◌, ◌⊎◌, ℕ, [], ◌∷◌, pos, None, Some, Result, Ok, Err, MatchResult}
use Rattle.std.specs.Prelude.{IsTrue}
use Rattle.std.specs.FinMap.{len}
use Rattle.sqlite.specs.Effect.{Database}
use Rattle.sqlite.specs.Schema.{Schema}
use Rattle.sqlite.specs.declared.error.Error.{Error}
use Rattle.sqlite_catalog.specs.Change.{without_table}
use Rattle.sqlite.specs.State.{State as Seen, Survives}
use Rattle.sqlite_trees.specs.Tree.{Trees}
use Rattle.streetmap_ledger.specs.State.{State}
use Rattle.streetmap_ledger.specs.Keep.{LeavesOnly}
use Rattle.streetmap_rows.specs.Failures.{IsOfStore}
use Rattle.streetmap_rows.specs.Tables.{Roots, meta, features}
use Rattle.streetmap_rows.specs.Representations.{StandsFor}
use Rattle.streetmap_rows.specs.KeptStates.{Keeps, Rests, MayLeave}
use Rattle.streetmap_rows.specs.declared.fault.ReadFault.{ReadFault}
use Rattle.streetmap_rows.specs.declared.fault.ReadFault.TheVariants as read
use Rattle.streetmap_tables.specs.Creation.{KeepsOtherTables, HasSame}
use Rattle.streetmap_tables.specs.CreationRefusals.{IsFullFor}
use Rattle.streetmap_tables.specs.Adoption.{LeavesNoMore, LeavesTheSame, IsAsItWas}
use Rattle.streetmap_tables.specs.QueryResults.{ShowsFormat, ShowsKeys, LosesKeys, ShowsFault}
use Rattle.streetmap_tables.specs.QueryResults.{ShowsNothing}
use Rattle.streetmap_tables.specs.Old.{WereOurs, KeepsOld, RestsOld}
use Rattle.streetmap_tables.specs.Part.{emptied}
use Rattle.streetmap_tables.specs.declared.openings.OpenFault.{OpenFault}
use Rattle.streetmap_tables.specs.declared.openings.OpenFault.TheVariants.{NotOurs, NewFormat}
use Rattle.streetmap_tables.specs.declared.openings.OpenFault.TheVariants.{Damaged, Device}
use Rattle.streetmap_tables.specs.declared.openings.OpenFault.TheVariants.{Memory}

-- ---- why tables are not migrated

-- the store failed, or the schema without the two tables of format 1 has no place for those of
-- format 2
abbrev pub IsMigrationError : Schema → Error → Type 0
IsMigrationError schema e = IsOfStore e
    ⊎ ((roots : Roots) × WereOurs roots schema
    × IsFullFor (meta 0 ∷ features 0 ∷ [])
    (without_table (without_table schema roots.features) roots.meta) e)

-- it is for that, or memory ran out, and for no row that cannot be read
abbrev pub CarryingRefusedFor : Schema → ReadFault → Type 0
CarryingRefusedFor schema read.Memory = Unit {0}
CarryingRefusedFor schema (read.Store e) = IsMigrationError schema e
CarryingRefusedFor schema read.Unread = ⊥

-- ---- inside the transaction

-- the tables of the features and of the format are made again: they are of format 2, and have every
-- row of the state but those of its features
abbrev pub Remakes : Seen → Seen → Type 0
Remakes old new = (s : State) → KeepsOld s old.now → StandsFor (emptied s) new.now
    × KeepsOtherTables old.now new.now

-- the tables are those of the state in format 2, with this number of batches
abbrev pub CarriesInside : Seen → Seen → Result ℕ ReadFault → Type 0
CarriesInside old new result =
    old.step_limit ≡ None → IsTrue old.in_transaction → (s : State) → KeepsOld s old.now
    → MatchResult result (λ count. (count ≡ len s.keys) × Keeps s new.now
    × KeepsOtherTables old.now new.now) (CarryingRefusedFor old.now.schema)

-- ---- the transaction

-- it was committed, or rolled back
abbrev pub CarriesAlone : State → Seen → Seen → Result ℕ ReadFault → Type 0
CarriesAlone s old new (Ok count) = (count ≡ len s.keys) × Rests new s
    × KeepsOtherTables old.now new.now
CarriesAlone s old new (Err fault) = CarryingRefusedFor old.now.schema fault
    × (IsTrue new.is_open → HasSame old new)

-- a crash leaves what it could leave before, or the same state in format 2
abbrev pub MayCarry : State → Seen → Seen → Type 0
MayCarry s old new = (trees : Trees) → new.may_leave trees → old.may_leave trees
    ⊎ ((db : Database) × Keeps s db × (trees ≡ db.trees))

-- Tables of a state in format 1 are opened as that state in format 2, with the number of its keys;
-- a crash can then leave it, and no other. But the store may fail, or its schema may have no place
-- for the tables of format 2, or memory may run out, which changes nothing.
abbrev pub Carries : State → Seen → Seen → Result ℕ OpenFault → Type 0
Carries s old new (Ok count) = (count ≡ len s.keys) × Rests new s × MayLeave new (Some s)
    × LeavesOnly (MayLeave new) (Some s)
Carries s old new (Err Memory) = RestsOld new s × LeavesTheSame old new
Carries s old new (Err (Device e)) = IsMigrationError old.now.schema e
    × (IsTrue new.is_open → RestsOld new s)
Carries s old new (Err Damaged) = ⊥
Carries s old new (Err NotOurs) = ⊥
Carries s old new (Err NewFormat) = ⊥

-- the causes for which a migration may be refused
abbrev pub IsNamedFault : OpenFault → Type 0
IsNamedFault Damaged = Unit {0}
IsNamedFault (Device e) = Unit {0}
IsNamedFault Memory = Unit {0}
IsNamedFault NotOurs = ⊥
IsNamedFault NewFormat = ⊥

-- After a refusal that blames the tables a crash can leave no more than before. After a failure of
-- the store that may hold only while the connection is open: a commit may have failed.
abbrev pub KeepsNoMore : OpenFault → Seen → Seen → Type 0
KeepsNoMore NotOurs old new = LeavesNoMore old new
KeepsNoMore NewFormat old new = LeavesNoMore old new
KeepsNoMore Damaged old new = LeavesNoMore old new
KeepsNoMore (Device e) old new = Unit {0}
KeepsNoMore Memory old new = Unit {0}

-- why tables of this schema, which are those of a state in format 1, are not migrated
abbrev pub IsRefusedOld : Schema → OpenFault → Type 0
IsRefusedOld schema (Device e) = IsMigrationError schema e
IsRefusedOld schema Memory = Unit {0}
IsRefusedOld schema Damaged = ⊥
IsRefusedOld schema NotOurs = ⊥
IsRefusedOld schema NewFormat = ⊥

-- ---- tables of either format

-- the query for the format row shows format 1
abbrev pub IsOld : Seen → Type 0
IsOld seen = ShowsFormat seen (Some (pos 1))

-- if the format is not 1 the connection holds what it held, and a crash can leave no more than
-- before
abbrev pub UntouchedUnlessFormat1 : Seen → Seen → Type 0
UntouchedUnlessFormat1 old new = ¬ (IsOld old) → IsAsItWas old new × Survives old new (λ _. ⊥)

-- The result is what the queries show, whatever the tables are; those of format 1 may be migrated,
-- or be damaged, or a statement of their migration may be refused.
abbrev pub OpensBy : Seen → Result ℕ OpenFault → Type 0
OpensBy seen (Ok count) = ShowsKeys seen count ⊎ IsOld seen
OpensBy seen (Err NotOurs) = ShowsFault seen NotOurs ⊎ ShowsNothing seen
OpensBy seen (Err NewFormat) = ShowsFault seen NewFormat
OpensBy seen (Err Damaged) = IsOld seen ⊎ LosesKeys seen
OpensBy seen (Err (Device e)) = IsOfStore e ⊎ IsOld seen
OpensBy seen (Err Memory) = Unit {0}
