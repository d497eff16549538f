-- The effect of a batch, and of a list of batches.
use Rattle.std.specs.Prelude.{ℕ, ◌+◌, ◌-◌, ◌^◌, List, [], ◌∷◌, Option, None, Some, Result, Ok, Err}
use Rattle.std.specs.Prelude.{if◌then◌else◌, nat_lt, nat_eq}
use Rattle.std.specs.Cmp.Lexicographic.{pointwise}
use Rattle.std.specs.FinMap.{get, insert, len}
use Rattle.streetmap_batch.specs.BatchValue as edit
use Rattle.streetmap_batch.specs.BatchValue.{EditValue, BatchValue}
use Rattle.streetmap_batch.specs.BatchText.{batch_text}
use Rattle.streetmap_ledger.specs.State.{State, AcceptedBatch, step, ◌>>=◌}
use Rattle.streetmap_ledger.specs.declared.reply.Counts.{Counts}
use Rattle.streetmap_ledger.specs.declared.reply.Refusal.{Refusal}
use Rattle.streetmap_ledger.specs.declared.reply.Refusal.TheVariants.{KeyUsed, Full}
use Rattle.streetmap_ledger.specs.declared.reply.Reply.{Reply}
use Rattle.streetmap_ledger.specs.declared.reply.Reply.TheVariants.{Accepted, Repeated, Refused}

-- a refusal is returned with the place of its edit
abbrev pub placed : ℕ → Result State Refusal → Result State (ℕ × Refusal)
placed place (Ok s) = Ok s
placed place (Err why) = Err (place, why)

-- the edits in order, the first of them at this place, each on the state that the one before left
abbrev pub edited : ℕ → State → List EditValue → Result State (ℕ × Refusal)
edited place s [] = Ok s
edited place s (e ∷ es) = placed place (step s e) >>= λ t. edited (place + 1) t es

-- with one more edit
abbrev pub counted : Counts → EditValue → Counts
counted n (edit.«open» name title time) = record n { opened = n.opened + 1 }
counted n (edit.insert name f) = record n { inserted = n.inserted + 1 }
counted n (edit.replace name f) = record n { replaced = n.replaced + 1 }
counted n (edit.delete name id) = record n { deleted = n.deleted + 1 }

-- with these edits added
abbrev pub counted_all : Counts → List EditValue → Counts
counted_all n [] = n
counted_all n (e ∷ es) = counted_all (counted n e) es

-- how many edits of each kind
abbrev pub counts_of : List EditValue → Counts
counts_of es = counted_all (record { opened = 0; inserted = 0; replaced = 0; deleted = 0 }) es

-- the reply to a batch, and the state after it
pub record Outcome : Type 0 where
  pub reply : Reply
  pub state : State

-- what is kept for a batch that was accepted with this serial
abbrev pub kept_for : BatchValue → ℕ → AcceptedBatch
kept_for b serial = record { text = batch_text b; counts = counts_of b.edits; serial = serial }

-- a batch whose key is new, by the result of its edits: accepted with this serial, or refused as a
-- whole
abbrev pub fresh : State → BatchValue → ℕ → Result State (ℕ × Refusal) → Outcome
fresh s b serial (Ok t) = record {
  reply = Accepted (counts_of b.edits) serial;
  state = record t
      { keys = insert t.keys b.key (kept_for b serial) };
}
fresh s b serial (Err e) = record { reply = Refused e.1 (Some e.0); state = s }

-- how many batches may be accepted
abbrev pub most_batches : ℕ
most_batches = 2 ^ 63 - 1

-- a batch by what is kept for its key: a repeat if the texts are the same, a key that was used, or
-- a new key
abbrev pub by_key : State → BatchValue → Option AcceptedBatch → Outcome
by_key s b (Some kept) =
    if pointwise nat_eq kept.text (batch_text b)
    then record { reply = Repeated kept.counts kept.serial; state = s }
    else record { reply = Refused KeyUsed None; state = s }
by_key s b None =
    if nat_lt (len s.keys) most_batches then fresh s b (len s.keys + 1) (edited 1 s b.edits)
    else record { reply = Refused Full None; state = s }

-- one batch
abbrev pub act : State → BatchValue → Outcome
act s b = by_key s b (get s.keys b.key)

-- the replies to batches in order
abbrev pub replies_of : State → List BatchValue → List Reply
replies_of s [] = []
replies_of s (b ∷ bs) = (act s b).reply ∷ replies_of (act s b).state bs

-- the state after batches in order
abbrev pub after_all : State → List BatchValue → State
after_all s [] = s
after_all s (b ∷ bs) = after_all (act s b).state bs
