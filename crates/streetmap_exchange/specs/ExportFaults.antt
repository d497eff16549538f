-- Why an export, or the writing of lines, ends early: the faults of its parts, and whether it was
-- the keeper.
use Rattle.std.specs.Prelude.{◌⊎◌, None, Some, Result, Ok, Err, ⊤}
use Rattle.streetmap_ledger.specs.declared.reply.Fault.TheVariants.{Memory}
use Rattle.streetmap_replay.specs.Calls.{LastAnswer, fails_by}
use Rattle.streetmap_exchange.specs.declared.fault.ExportFault.{ExportFault}
use Rattle.streetmap_exchange.specs.declared.fault.ExportFault.TheVariants.{NoCollection, Stopped}
use Rattle.streetmap_exchange.specs.declared.fault.ExportFault.TheVariants.{WriteFailed}
use Rattle.streetmap_exchange.specs.declared.fault.ExportFault.TheVariants.{FlushFailed}

-- the faults of a write: memory runs out, or the write fails
abbrev pub IsWriteFault : ExportFault → Type 0
IsWriteFault NoCollection = ⊥
IsWriteFault (Stopped Memory) = ⊤
IsWriteFault (Stopped _) = ⊥
IsWriteFault WriteFailed = ⊤
IsWriteFault FlushFailed = ⊥

-- the faults of a flush: memory runs out, or the flush fails
abbrev pub IsFlushFault : ExportFault → Type 0
IsFlushFault NoCollection = ⊥
IsFlushFault (Stopped Memory) = ⊤
IsFlushFault (Stopped _) = ⊥
IsFlushFault WriteFailed = ⊥
IsFlushFault FlushFailed = ⊤

-- the faults of a write and then a flush
abbrev pub IsEndFault : ExportFault → Type 0
IsEndFault fault = IsWriteFault fault ⊎ IsFlushFault fault

-- the keeper's answer: its fault, or `Memory`, or no fault
abbrev pub export_answer : {T : Type 0} → Result T ExportFault → LastAnswer
export_answer (Ok x) = Some (Ok tt)
export_answer (Err NoCollection) = Some (Ok tt)
export_answer (Err (Stopped fault)) = fails_by fault
export_answer (Err WriteFailed) = Some (Ok tt)
export_answer (Err FlushFailed) = Some (Ok tt)

-- the faults of writing the lines of kept batches
abbrev pub IsLinesFault : ExportFault → Type 0
IsLinesFault NoCollection = ⊥
IsLinesFault (Stopped fault) = ⊤
IsLinesFault WriteFailed = ⊤
IsLinesFault FlushFailed = ⊥

-- the keeper's answer then: its fault, or `Memory`, or no fault; none if too many rounds were made
abbrev pub lines_answer : {T : Type 0} → Result T ExportFault → LastAnswer
lines_answer (Ok x) = Some (Ok tt)
lines_answer (Err (Stopped fault)) = fails_by fault
lines_answer (Err fault) = None
