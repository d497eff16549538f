-- The effect of a batch, on a connection whose database is that of a state.
use Rattle.std.specs.Prelude.{◌≡◌, ℕ, ◌<◌, ◌-◌, ◌^◌, None, Result, Ok, Err, MatchResult, IsTrue}
use Rattle.std.specs.Prelude.{nat_eq, if◌then◌else◌}
use Rattle.std.specs.FinMap.{get, len}
use Rattle.std.specs.Cmp.Lexicographic.{pointwise}
use Rattle.streetmap_batch.specs.Text.{Text}
use Rattle.streetmap_ledger.specs.State.{AcceptedBatch}
use Rattle.streetmap_ledger.specs.declared.reply.Refusal.TheVariants.{KeyUsed}
use Rattle.sqlite.specs.declared.error.Error.{Error}
use Rattle.sqlite.specs.State.{State as Seen, KeepsCommit}
use Rattle.streetmap_batch.specs.BatchValue.{BatchValue}
use Rattle.streetmap_ledger.specs.State.{State}
use Rattle.streetmap_ledger.specs.Batches.{act}
use Rattle.streetmap_ledger.specs.declared.reply.Reply.{Reply}
use Rattle.streetmap_ledger.specs.declared.reply.Reply.TheVariants.{Accepted, Repeated, Refused}
use Rattle.streetmap_rows.specs.Failures.{IsOfStore}
use Rattle.streetmap_rows.specs.KeptStates.{Keeps, Rests}
use Rattle.streetmap_rows.specs.Elsewhere.{IsSameElsewhere}
use Rattle.streetmap_tables.specs.EditEffects.{KeepsRest}
use Rattle.streetmap_rows.specs.declared.failures.Stop.{Stop}
use Rattle.streetmap_rows.specs.declared.failures.Stop.TheVariants.{Memory, Closed}
use Rattle.streetmap_rows.specs.declared.failures.Shut.TheVariants.{Device, Damaged}

-- what a state must satisfy, if the key is new and a batch has room
pub record Awaits (s : State) (b : BatchValue) (count : ℕ) : Type 0 where
  pub absent : get s.keys b.key ≡ None
  pub counted : len s.keys ≡ count
  pub room : count < 2 ^ 63 - 1

-- what a reply leaves inside the transaction
abbrev pub LeavesInside : State → BatchValue → Seen → Reply → Type 0
LeavesInside s b new (Accepted counts serial) = Keeps (act s b).state new.now
    × IsTrue new.in_transaction
LeavesInside s b new (Repeated counts serial) = (act s b).state ≡ s
LeavesInside s b new (Refused why place) = (act s b).state ≡ s

-- a batch inside a transaction
abbrev pub ActsInside : BatchValue → ℕ → Seen → Seen → Result Reply Error → Type 0
ActsInside b count old new r =
    old.step_limit ≡ None → IsTrue old.in_transaction → (s : State) → Keeps s old.now
    → Awaits s b count
    → MatchResult r (λ reply. (reply ≡ (act s b).reply) × LeavesInside s b new reply
    × KeepsRest old new) (λ e. IsOfStore e × KeepsCommit old new)

-- after a reply that changed nothing the connection may have been closed
abbrev pub IfOpen : Reply → Seen → Type 0 → Type 0
IfOpen (Accepted counts serial) new P = P
IfOpen (Repeated counts serial) new P = IsTrue new.is_open → P
IfOpen (Refused why place) new P = IsTrue new.is_open → P

-- a batch, once its transaction has ended
abbrev pub Ended : State → BatchValue → Seen → Result Reply Error → Type 0
Ended s b new (Ok reply) = (reply ≡ (act s b).reply) × IfOpen reply new (Rests new (act s b).state)
Ended s b new (Err e) = IsOfStore e × (IsTrue new.is_open → Rests new s)

-- the answer to a batch whose key is known: the old reply if the texts are equal
abbrev pub kept_answer : Text → AcceptedBatch → Reply
kept_answer text kept = if pointwise nat_eq kept.text text then Repeated kept.counts kept.serial
    else Refused KeyUsed None

-- a read outside of a transaction, which leaves the database
abbrev pub Rested : {A : Type 0} → (State → A) → Seen → Seen → Result A Error → Type 0
Rested f old new r = (s : State) → Rests old s
    → MatchResult r (λ a. (a ≡ f s) × Rests new s) (λ e. IsOfStore e
    × (IsTrue new.is_open → Rests new s))

-- if the connection is open, every other table is as it was
abbrev pub LeavesOtherTables : Seen → Seen → Type 0
LeavesOtherTables old new = IsTrue new.is_open → IsSameElsewhere old.now new.now

-- the result of a batch in a transaction of its own
abbrev pub Applied : State → BatchValue → Seen → Result Reply Stop → Type 0
Applied s b new (Ok reply) = (reply ≡ (act s b).reply) × Rests new (act s b).state
Applied s b new (Err Memory) = Rests new s
Applied s b new (Err (Closed (Device e))) = IsOfStore e
Applied s b new (Err (Closed Damaged)) = ⊥

-- if the store is reported to have failed, it is by an error of the store
abbrev pub IsByStoreError : Stop → Type 0
IsByStoreError Memory = Unit {0}
IsByStoreError (Closed (Device e)) = IsOfStore e
IsByStoreError (Closed Damaged) = Unit {0}
