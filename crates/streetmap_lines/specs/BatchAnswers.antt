-- The answer to a line with a batch, over any keeper.
use Rattle.std.specs.Prelude.{◌≡◌, ◌⊎◌, Result, Ok, Err, String, string_bytes}
use Rattle.std.specs.declared.alloc.Global.{Global}
use Rattle.serde_json.specs.Written.{compact_text}
use Rattle.streetmap_batch.specs.BatchValue.{BatchValue}
use Rattle.streetmap_batch.specs.declared.batch_fault.BatchFault.{BatchFault}
use Rattle.streetmap_ledger.specs.Model.{Model}
use Rattle.streetmap_ledger.specs.declared.reply.Reply.{Reply}
use Rattle.streetmap_ledger.specs.declared.reply.Fault.{Fault}
use Rattle.streetmap_ledger.specs.declared.reply.Fault.TheVariants.{Memory}
use Rattle.streetmap_bodies.specs.Replies.{reply_body}
use Rattle.streetmap_bodies.specs.RequestFaults.{fault_body}
use Rattle.streetmap_bodies.specs.declared.request_fault.RequestFault.TheVariants.{Batch}

-- the answer is the body of this reply, whatever it is; or this fault
abbrev pub Answers : BatchValue → Result Reply Fault → Result (String Global) Fault → Type 0
Answers b (Ok reply) (Ok text) = string_bytes text ≡ compact_text (reply_body b.key reply)
Answers b (Ok reply) (Err fault) = ⊥
Answers b (Err why) (Ok text) = ⊥
Answers b (Err why) (Err fault) = fault ≡ why

-- the answer is what the keeper answered to the batch
abbrev pub AsKeeper : {K : Type 0} → Model K → (old new : K) → BatchValue
    → Result (String Global) Fault → Type 0
AsKeeper model old new b answer =
    (reply : Result Reply Fault) × model.applies old b reply new × Answers b reply answer

-- memory ran out before the keeper was called
abbrev pub OutOfMemory : (uncalled : Type 0) → Result (String Global) Fault → Type 0
OutOfMemory uncalled answer = uncalled × (answer ≡ Err Memory)

-- A readable batch is answered by what the keeper answered; another by its fault, and the keeper is
-- not called. Otherwise memory ran out, before the keeper was called.
abbrev pub AnswersBatch : {K : Type 0} → Model K → (old new : K) → Result BatchValue BatchFault
    → Result (String Global) Fault → Type 0
AnswersBatch model old new (Ok b) answer =
    AsKeeper model old new b answer ⊎ OutOfMemory (new ≡ old) answer
AnswersBatch model old new (Err why) (Ok text) =
    (new ≡ old) × (string_bytes text ≡ compact_text (fault_body (Batch why)))
AnswersBatch model old new (Err why) (Err fault) = OutOfMemory (new ≡ old) (Err fault)
