-- The effect of an import into a keeper.
use Rattle.std.specs.Prelude.{◌≡◌, None, Some, Result, Ok, Err, String, string_bytes}
use Rattle.std.specs.Prelude.{IsOkAnd}
use Rattle.std.specs.declared.alloc.Global.{Global}
use Rattle.serde_json.specs.Written.{compact_text}
use Rattle.streetmap_batch.specs.Text.{Text}
use Rattle.streetmap_batch.specs.BatchValue.{BatchValue}
use Rattle.streetmap_ledger.specs.State.{State}
use Rattle.streetmap_ledger.specs.Batches.{act}
use Rattle.streetmap_ledger.specs.Keep.{Writes}
use Rattle.streetmap_ledger.specs.Model.{Model}
use Rattle.streetmap_ledger.specs.declared.reply.Fault.{Fault}
use Rattle.streetmap_ledger.specs.declared.reply.Reply.{Reply}
use Rattle.streetmap_ledger.specs.declared.reply.Reply.TheVariants as replies
use Rattle.streetmap_bodies.specs.Replies.{reply_body}
use Rattle.streetmap_replay.specs.Calls.{LastAnswer, fails_by}
use Rattle.streetmap_exchange.specs.ImportFaults.{FailsToRead}
use Rattle.streetmap_exchange.specs.declared.fault.ImportFault.{ImportFault}
use Rattle.streetmap_exchange.specs.declared.fault.ImportFault.TheVariants.{Refused, Stopped}

-- for an accepted or repeated batch of this key the body of its reply is returned, for a refused
-- one the refusal
abbrev pub IsReported : (key : Text) → Reply → Result (String Global) ImportFault → Type 0
IsReported key (replies.Refused why place) reported = reported ≡ Err (Refused why place)
IsReported key reply reported = IsOkAnd reported (λ body. string_bytes body
    ≡ compact_text (reply_body key reply))

-- a batch on a keeper that represented this state: its reply is returned, and the keeper represents
-- the state after it; or the keeper answered with a fault, as to a batch
abbrev pub ImportsBatch : {K : Type 0} → Model K → (old new : K) → State → BatchValue
    → Result (String Global) ImportFault → Type 0
ImportsBatch model old new s b (Ok body) =
    IsReported b.key (act s b).reply (Ok body) × model.represents new (act s b).state
ImportsBatch model old new s b (Err (Refused why place)) =
    IsReported b.key (act s b).reply (Err (Refused why place))
    × model.represents new (act s b).state
ImportsBatch model old new s b (Err (Stopped fault)) = Writes model old new s b (Err fault)
ImportsBatch model old new s b (Err unread) = ⊥

-- for a text that reads as this: its batch does what a batch does, or its fault is returned and the
-- state stays
abbrev pub Imports : {K : Type 0} → Model K → (old new : K) → State
    → Result BatchValue ImportFault → Result (String Global) ImportFault → Type 0
Imports model old new s read (Ok body) =
    (b : BatchValue) × (read ≡ Ok b) × ImportsBatch model old new s b (Ok body)
Imports model old new s read (Err (Refused why place)) =
    (b : BatchValue) × (read ≡ Ok b) × ImportsBatch model old new s b (Err (Refused why place))
Imports model old new s read (Err (Stopped fault)) =
    (b : BatchValue) × (read ≡ Ok b) × ImportsBatch model old new s b (Err (Stopped fault))
Imports model old new s read (Err unread) = FailsToRead unread read × model.represents new s

-- the keeper's answer; none if it received no request
abbrev pub import_answer : Result (String Global) ImportFault → LastAnswer
import_answer (Ok body) = Some (Ok tt)
import_answer (Err (Refused why place)) = Some (Ok tt)
import_answer (Err (Stopped fault)) = fails_by fault
import_answer (Err unread) = None

-- the keeper received no request and is as it was, or the result is what it replied to the batch
abbrev pub IsOfReply : (key : Text) → (came : Result Reply Fault → Type 0) → (same : Type 0) →
    Result (String Global) ImportFault → Type 0
IsOfReply key came same (Ok body) =
    (reply : Reply) × came (Ok reply) × IsReported key reply (Ok body)
IsOfReply key came same (Err (Refused why place)) =
    (reply : Reply) × came (Ok reply) × IsReported key reply (Err (Refused why place))
IsOfReply key came same (Err (Stopped fault)) = came (Err fault)
IsOfReply key came same (Err unread) = same
