-- What an answer is in the code: a text, and the state that the keeper represents afterwards.
use Rattle.std.specs.Prelude.{◌≡◌, Option, None, Some, Result, Ok, Err, String, string_bytes}
use Rattle.std.specs.declared.alloc.Global.{Global}
use Rattle.std.specs.declared.alloc.AllocError.{AllocError}
use Rattle.serde_json.specs.Written.{compact_text}
use Rattle.streetmap_ledger.specs.State.{State}
use Rattle.streetmap_ledger.specs.Model.{Model}
use Rattle.streetmap_memory.specs.Plain.{IsPlainState}
use Rattle.streetmap_memory.specs.declared.plain.PlainKeeper.{PlainKeeper}
use Rattle.streetmap_ledger.specs.declared.reply.Cause.TheVariants as causes
use Rattle.streetmap_ledger.specs.declared.reply.Fault.{Fault}
use Rattle.streetmap_ledger.specs.declared.reply.Fault.TheVariants.{Memory, Device, Damaged, Reopen}
use Rattle.streetmap_lines.specs.Answers.{Answer}

-- the text is the compact text of the answer's body, and the keeper represents the answer's
-- state
abbrev pub Says : Answer → String Global → PlainKeeper → Type 0
Says answer text keeper = (string_bytes text ≡ compact_text answer.body)
    × IsPlainState keeper answer.state

-- it says so, or memory ran out and the keeper represents the state as before
abbrev pub SaysOr : State → Answer → Result (String Global) AllocError → PlainKeeper → Type 0
SaysOr s answer (Ok text) keeper = Says answer text keeper
SaysOr s answer (Err e) keeper = IsPlainState keeper s

-- the same of a line, if it has an answer
abbrev pub LineSays : State → Answer → Result (Option (String Global)) AllocError → PlainKeeper
    → Type 0
LineSays s answer (Ok None) keeper = ⊥
LineSays s answer (Ok (Some text)) keeper = Says answer text keeper
LineSays s answer (Err e) keeper = IsPlainState keeper s

-- it says so of any keeper; or memory ran out, and the state is as before; or the keeper's store
-- failed, which shut it
abbrev pub SaysOf : {K : Type 0} → Model K → State → Answer → Result (String Global) Fault → K
    → Type 0
SaysOf model s answer (Ok text) keeper = (string_bytes text ≡ compact_text answer.body)
    × model.represents keeper answer.state
SaysOf model s answer (Err Memory) keeper = model.represents keeper s
SaysOf model s answer (Err Device) keeper = model.cause keeper ≡ Some causes.Device
SaysOf model s answer (Err Damaged) keeper = ⊥
SaysOf model s answer (Err Reopen) keeper = ⊥
