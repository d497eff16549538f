-- Which keeper of a replay answered with a fault.
use Rattle.std.specs.Prelude.{None, Result, Ok, Err}
use Rattle.streetmap_ledger.specs.declared.reply.Fault.{Fault}
use Rattle.streetmap_ledger.specs.declared.reply.Fault.TheVariants as faults
use Rattle.streetmap_replay.specs.Calls.{LastAnswer, fails_by}
use Rattle.streetmap_replay.specs.declared.fault.ReplayFault.{ReplayFault}
use Rattle.streetmap_replay.specs.declared.fault.ReplayFault.TheVariants.{Kept, Fresh, Memory}
use Rattle.streetmap_replay.specs.declared.fault.ReplayFault.TheVariants.{Batch, Collection}

-- the faults of a keeper that represents a state: it is neither damaged nor shut
abbrev pub IsForeseen : Fault → Type 0
IsForeseen faults.Memory = Unit {0}
IsForeseen faults.Device = Unit {0}
IsForeseen faults.Damaged = ⊥
IsForeseen faults.Reopen = ⊥

-- the fault of the first keeper, if the result is that
abbrev pub kept_end : {T : Type 0} → Result T ReplayFault → LastAnswer
kept_end (Ok x) = None
kept_end (Err (Kept fault)) = fails_by fault
kept_end (Err (Fresh fault)) = None
kept_end (Err Memory) = None
kept_end (Err (Batch serial)) = None
kept_end (Err (Collection name)) = None

-- and of the second
abbrev pub fresh_end : {T : Type 0} → Result T ReplayFault → LastAnswer
fresh_end (Ok x) = None
fresh_end (Err (Kept fault)) = None
fresh_end (Err (Fresh fault)) = fails_by fault
fresh_end (Err Memory) = None
fresh_end (Err (Batch serial)) = None
fresh_end (Err (Collection name)) = None

-- a replay did not complete, and nothing was found to differ
abbrev pub IsStop : ReplayFault → Type 0
IsStop (Kept fault) = Unit {0}
IsStop (Fresh fault) = Unit {0}
IsStop Memory = Unit {0}
IsStop (Batch serial) = ⊥
IsStop (Collection name) = ⊥
