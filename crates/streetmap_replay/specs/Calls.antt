-- Calls of a keeper, one after the other.
use Rattle.std.specs.Prelude.{◌≡◌, Option, None, Some, Result, Ok, Err, IsSome}
use Rattle.streetmap_ledger.specs.Keep.{ShutsBy, LeavesOnly, LeavesSame}
use Rattle.streetmap_ledger.specs.Model.{Model}
use Rattle.streetmap_ledger.specs.State.{State}
use Rattle.streetmap_ledger.specs.declared.reply.Cause.{Cause}
use Rattle.streetmap_ledger.specs.declared.reply.Fault.{Fault}
use Rattle.streetmap_ledger.specs.declared.reply.Fault.TheVariants.{Memory, Device, Damaged, Reopen}

-- the answer to the last call: a fault, or none. Or (none of the two) there need not have been a
-- call, and no fault was answered
abbrev pub LastAnswer : Type 0
LastAnswer = Option (Result (Unit {0}) Fault)

-- the fault that was the last answer
abbrev pub fails_by : Fault → LastAnswer
fails_by fault = Some (Err fault)

-- the fault, if the result is one
abbrev pub fault_in : {T : Type 0} → Result T Fault → LastAnswer
fault_in (Ok x) = None
fault_in (Err fault) = fails_by fault

-- what shut the keeper
abbrev pub CallsShut : LastAnswer → Option Cause → Option Cause → Type 0
CallsShut None old new = new ≡ old
CallsShut (Some result) old new = ShutsBy result old new

-- what becomes of a shut keeper: it was not called; or what a crash may leave of it stays
abbrev pub ShutStays : {K : Type 0} → Model K → (old new : K) → LastAnswer → Type 0
ShutStays model old new None = new ≡ old
ShutStays model old new (Some result) = LeavesSame (model.may_leave old) (model.may_leave new)

-- any number of calls: they keep what else the store has and take none that failed for clean, and
-- the last answer says what shut the keeper
pub record AreCalls {K : Type 0} (model : Model K) (old new : K) (last : LastAnswer) : Type 0 where
  pub preserved : model.preserves old new
  pub began_clean : model.is_clean new → model.is_clean old
  pub faults : CallsShut last (model.cause old) (model.cause new)
  pub shut : IsSome (model.cause old) → ShutStays model old new last

-- reads, if the keeper represented this state: the state stays; or the store failed, and a crash
-- leaves the state
abbrev pub Stays : {K : Type 0} → Model K → (old new : K) → State → LastAnswer → Type 0
Stays model old new s None = model.represents new s
Stays model old new s (Some (Ok done)) = model.represents new s
Stays model old new s (Some (Err Memory)) = model.represents new s
Stays model old new s (Some (Err Device)) =
    model.fails old new × LeavesOnly (model.may_leave new) (Some s)
Stays model old new s (Some (Err Damaged)) = ⊥
Stays model old new s (Some (Err Reopen)) = ⊥

-- any number of calls that read
pub record AreReads {K : Type 0} (model : Model K) (old new : K) (last : LastAnswer) : Type 0 where
  pub calls : AreCalls model old new last
  pub stays : model.is_clean new → (s : State) → model.represents old s
      → Stays model old new s last
