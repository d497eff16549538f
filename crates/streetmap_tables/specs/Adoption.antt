-- Opening existing tables.
use Rattle.std.specs.Prelude.{◌≡◌, ℕ, List, [], ◌∷◌, pos, codes, length, None, Some, Ok, Err}
use Rattle.std.specs.Prelude.{Option, Result, Vec, MatchResult, IsTrue}
use Rattle.std.specs.FinMap.{len}
use Rattle.std.specs.declared.alloc.Global.{Global}
use Rattle.sqlite.specs.Order.{Row}
use Rattle.sqlite.specs.declared.error.Error.{Error}
use Rattle.sqlite.specs.declared.types.Value.TheVariants.{Int}
use Rattle.sqlite.specs.State.{State as Seen, IsUnchanged}
use Rattle.sqlite_trees.specs.Tree.{Trees}
use Rattle.streetmap_ledger.specs.State.{State}
use Rattle.streetmap_ledger.specs.Keep.{LeavesOnly}
use Rattle.streetmap_rows.specs.Failures.{IsOfStore}
use Rattle.streetmap_rows.specs.KeptStates.{Keeps, Rests, MayLeave}
use Rattle.streetmap_tables.specs.Creation.{HasSame}
use Rattle.streetmap_tables.specs.declared.adoption.Found.{Found}
use Rattle.streetmap_tables.specs.declared.adoption.Found.TheVariants.{Keys}
use Rattle.streetmap_tables.specs.declared.openings.OpenFault.{OpenFault}
use Rattle.streetmap_tables.specs.declared.openings.OpenFault.TheVariants.{NotOurs, NewFormat}
use Rattle.streetmap_tables.specs.declared.openings.OpenFault.TheVariants.{Damaged, Device}
use Rattle.streetmap_tables.specs.declared.openings.OpenFault.TheVariants.{Memory}

-- the serials of all batches
abbrev pub serials_text : List ℕ
serials_text = codes "SELECT serial FROM streetmap_batches"

-- on the tables of a state the format is 2, or the store fails
abbrev pub FindsFormat : Seen → Seen → Result (Vec Row Global) Error → Type 0
FindsFormat old new result = (s : State) → old.step_limit ≡ None → Keeps s old.now
    → MatchResult result (λ (rows : Vec Row Global). (rows.items ≡ (Int (pos 2) ∷ []) ∷ [])
    × IsUnchanged old new) IsOfStore

-- on the tables of a state each key has a serial, or the store fails
abbrev pub FindsSerials : Seen → Result (Vec Row Global) Error → Type 0
FindsSerials old result = (s : State) → old.step_limit ≡ None → Keeps s old.now
    → MatchResult result (λ (rows : Vec Row Global). length rows.items ≡ len s.keys) IsOfStore

-- on the tables of a state as many keys are found as it has, or the store fails
abbrev pub FindsKeys : Seen → Result Found Error → Type 0
FindsKeys old result = (s : State) → old.step_limit ≡ None → Keeps s old.now
    → MatchResult result (λ found. found ≡ Keys (len s.keys)) IsOfStore

-- an open connection that held what was committed still holds it
abbrev pub IsAsItWas : Seen → Seen → Type 0
IsAsItWas old new = old.now ≡ old.committed → IsTrue new.is_open → HasSame old new

-- it is open after the number of batches or format 1 is returned, and after memory ran out
abbrev pub StaysOpen : Seen → Result (Option ℕ) OpenFault → Type 0
StaysOpen new (Ok found) = IsTrue new.is_open
StaysOpen new (Err Memory) = IsTrue new.is_open
StaysOpen new (Err NotOurs) = Unit {0}
StaysOpen new (Err NewFormat) = Unit {0}
StaysOpen new (Err Damaged) = Unit {0}
StaysOpen new (Err (Device e)) = Unit {0}

-- a crash can leave no more than before
abbrev pub LeavesNoMore : Seen → Seen → Type 0
LeavesNoMore old new = (trees : Trees) → new.may_leave trees → old.may_leave trees

-- a crash can leave the same
abbrev pub LeavesTheSame : Seen → Seen → Type 0
LeavesTheSame old new = ((trees : Trees) → new.may_leave trees → old.may_leave trees)
    × ((trees : Trees) → old.may_leave trees → new.may_leave trees)

-- Tables of a state in format 2 are opened as that state, with the number of its keys; a crash can
-- leave it, and no other. But the store may fail, or memory may run out, which changes nothing.
abbrev pub Opens : State → Seen → Seen → Result ℕ OpenFault → Type 0
Opens s old new (Ok count) = (count ≡ len s.keys) × Rests new s × MayLeave new (Some s)
    × LeavesOnly (MayLeave new) (Some s)
Opens s old new (Err Memory) = Rests new s × LeavesTheSame old new
Opens s old new (Err (Device e)) = IsTrue new.is_open → Rests new s
Opens s old new (Err Damaged) = ⊥
Opens s old new (Err NotOurs) = ⊥
Opens s old new (Err NewFormat) = ⊥

-- and are not found to be of format 1
abbrev pub Adopts : State → Seen → Seen → Result (Option ℕ) OpenFault → Type 0
Adopts s old new (Ok (Some count)) = Opens s old new (Ok count)
Adopts s old new (Ok None) = ⊥
Adopts s old new (Err fault) = Opens s old new (Err fault)
