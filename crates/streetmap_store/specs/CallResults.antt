-- What a keeper over tables represents, and how its calls end.
use Rattle.std.specs.Prelude.{◌≡◌, ℕ, Bool, true, Option, None, Some, IsSome, Result, Ok, Err}
use Rattle.std.specs.Prelude.{IsTrue, T, not}
use Rattle.std.specs.Option.{option_map}
use mathlib.Core.Path.{subst}
use Rattle.std.specs.FinMap.{len}
use Rattle.sqlite.specs.declared.error.Error.{Error}
use Rattle.sqlite.specs.State.{State as Seen, HasCleanDisk, IsUnchanged, KeepsCommit, Survives}
use Rattle.sqlite_trees.specs.Tree.{Trees}
use Rattle.streetmap_batch.specs.BatchValue.{BatchValue}
use Rattle.streetmap_ledger.specs.State.{State}
use Rattle.streetmap_ledger.specs.Batches.{act}
use Rattle.streetmap_ledger.specs.declared.reply.Reply.{Reply}
use Rattle.streetmap_ledger.specs.declared.reply.Reply.TheVariants.{Accepted, Repeated, Refused}
use Rattle.streetmap_ledger.specs.declared.reply.Cause.{Cause}
use Rattle.streetmap_ledger.specs.declared.reply.Cause.TheVariants as cause
use Rattle.streetmap_ledger.specs.declared.reply.Fault.{Fault}
use Rattle.streetmap_ledger.specs.declared.reply.Fault.TheVariants as fault
use Rattle.streetmap_rows.specs.declared.failures.Stop.{Stop}
use Rattle.streetmap_rows.specs.declared.failures.Stop.TheVariants.{Memory, Closed}
use Rattle.streetmap_rows.specs.declared.failures.Shut.{Shut}
use Rattle.streetmap_rows.specs.declared.failures.Shut.TheVariants.{Device, Damaged}
use Rattle.streetmap_rows.specs.Failures.{is_of_store, HasReason}
use Rattle.streetmap_rows.specs.CallEnds.{Settles}
use Rattle.streetmap_rows.specs.KeptStates.{Rests, AreTreesOf}
use Rattle.streetmap_rows.specs.declared.fault.ReadFault.{ReadFault}
use Rattle.streetmap_rows.specs.declared.fault.ReadFault.TheVariants as read

-- the cause that shut it
abbrev pub cause_in : Shut → Cause
cause_in (Device e) = cause.Device
cause_in Damaged = cause.Damaged

-- the error of the store that shut it
abbrev pub error_in : Shut → Option Error
error_in (Device e) = Some e
error_in Damaged = None

-- it is not shut for a failure of the store, or by an error that is the store's
abbrev pub is_named : Option Shut → Bool
is_named None = true
is_named (Some (Device e)) = is_of_store e
is_named (Some Damaged) = true

-- an error of the store that shut it arose between these two for a reason
abbrev pub HasShut : Seen → Seen → Option Shut → Type 0
HasShut old new None = Unit {0}
HasShut old new (Some (Device e)) = HasReason old new e
HasShut old new (Some Damaged) = Unit {0}

-- a crash leaves what was committed last, and nothing else
pub record LeavesLast (seen : Seen) : Type 0 where
  pub left : seen.may_leave seen.committed.trees
  pub only : (trees : Trees) → seen.may_leave trees → trees ≡ seen.committed.trees

-- A keeper that is not shut represents the state of its connection, whose rows are of no other
-- state, and holds how many batches were accepted. A crash leaves what was committed last, which is
-- that state, and nothing else.
pub record KeepsState (shut : Option Shut) (seen : Seen) (count : ℕ) (s : State) : Type 0 where
  pub unshut : shut ≡ None
  pub rests : Rests seen s
  pub only : (o : Option State) → AreTreesOf seen.now.trees o → o ≡ Some s
  pub counted : len s.keys ≡ count
  pub last : LeavesLast seen

-- a keeper without a cause is not shut
pub never_shut : {B : Type 0} (shut : Option Shut) → shut ≡ None → IsSome (option_map cause_in shut)
    → B
never_shut shut none is = absurd
    (subst (λ b. T (not b)) (subst (λ o. IsSome (option_map cause_in o)) none is) tt)

-- how many batches were accepted, after a reply
abbrev pub count_after : Reply → ℕ → ℕ
count_after (Accepted counts serial) count = serial
count_after (Repeated counts serial) count = count
count_after (Refused why place) count = count

-- what a call that gave up shuts it for, and what is returned
abbrev pub shut_by : Stop → Option Shut → Option Shut
shut_by Memory shut = shut
shut_by (Closed why) shut = Some why

abbrev pub fault_by : Stop → Fault
fault_by Memory = fault.Memory
fault_by (Closed (Device e)) = fault.Device
fault_by (Closed Damaged) = fault.Damaged

-- a batch on a keeper that represented this state: the reply is the batch's, and the keeper
-- represents the state after it; out of memory it represents the state still
abbrev pub Acts : State → BatchValue → Result Reply Fault → (State → Type 0) → Type 0
Acts s b (Ok reply) represents = (reply ≡ (act s b).reply) × represents (act s b).state
Acts s b (Err fault.Memory) represents = represents s
Acts s b (Err fault.Device) represents = Unit {0}
Acts s b (Err fault.Damaged) represents = ⊥
Acts s b (Err fault.Reopen) represents = ⊥

-- how a read that gave up ends: out of memory, the connection is as it was; an error of a statement
-- is settled between two transactions; a row that cannot be read is damage
abbrev pub EndsRead : ReadFault → Seen → Seen → Stop → Type 0
EndsRead read.Memory old new it = (it ≡ Memory) × (IsTrue old.is_open → IsUnchanged old new)
EndsRead (read.Store e) old new it = Settles e old new it × KeepsCommit old new
    × (IsTrue new.is_open → new.now ≡ new.committed)
EndsRead read.Unread old new it = it ≡ Closed Damaged

-- what is returned for a read, and what shuts the keeper
abbrev pub Returns : {T : Type 0} → Result T ReadFault → Option Shut → Seen → Option Shut → Seen
    → Result T Fault → Type 0
Returns (Ok x) was old now new result =
    (result ≡ Ok x) × (now ≡ was) × (IsTrue old.is_open → IsUnchanged old new)
Returns (Err f) was old now new result =
    (it : Stop) × (result ≡ Err (fault_by it)) × (now ≡ shut_by it was)
    × (HasCleanDisk new → EndsRead f old new it)

-- a read of the connection, which found this, is answered, and the connection is open or settled
pub record Answers {T : Type 0} (found : Result T ReadFault) (was : Option Shut) (old : Seen)
    (now : Option Shut) (new : Seen) (result : Result T Fault) : Type 0 where
  pub survives : Survives old new (λ _. ⊥)
  pub last : IsTrue new.is_open → LeavesLast new
  pub returns : Returns found was old now new result
