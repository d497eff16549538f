-- What the reply to a batch says of the state after it.
use Rattle.std.proofs.Common.{◌≡◌, ℕ, ◌+◌, List, [], ◌∷◌, Option, None, Some, Result, Ok, Err, refl, sym, subst, nat_eq, nat_lt}
use Rattle.std.specs.Cmp.Lexicographic.{pointwise}
use Rattle.std.specs.FinMap.{get, len}
use Rattle.streetmap_batch.specs.BatchValue.{EditValue, BatchValue}
use Rattle.streetmap_batch.specs.BatchText.{batch_text}
use Rattle.streetmap_ledger.specs.State.{State, AcceptedBatch, step, ◌>>=◌}
use Rattle.streetmap_ledger.specs.Batches.{Outcome, placed, edited, fresh, by_key, act, most_batches}
use Rattle.streetmap_ledger.specs.Model.{Model}
use Rattle.streetmap_ledger.specs.Keep.{Writes}
use Rattle.streetmap_ledger.specs.declared.reply.Fault.{Fault}
use Rattle.streetmap_ledger.specs.declared.reply.Fault.TheVariants.{Memory, Device, Damaged, Reopen}
use Rattle.streetmap_ledger.specs.declared.reply.Counts.{Counts}
use Rattle.streetmap_ledger.specs.declared.reply.Refusal.{Refusal}
use Rattle.streetmap_ledger.specs.declared.reply.Reply.TheVariants.{Accepted, Repeated, Refused}
use Rattle.streetmap_index.specs.Index.{IsOutlinedIf, IsIndexOf, IsNoted}
use Rattle.streetmap_index.specs.Indexed.{indexed}
use Rattle.streetmap_index.specs.declared.index.Index.{Index}
use Rattle.streetmap_index.specs.declared.keeper.IndexedKeeper.{IndexedKeeper}
use Rattle.streetmap_ledger.proofs.Repeat.{either}

-- the edits were done in order, and the outcome has their collections
pub record IsDone (s : State) (b : BatchValue) (after : State) : Type 0 where
  pub done : State
  pub is : edited 1 s b.edits ≡ Ok done
  pub collections : after.collections ≡ done.collections

-- an outcome that is accepted did the edits, and any other left the state
pub record Reports (s : State) (b : BatchValue) (o : Outcome) : Type 0 where
  pub accepted : (counts : Counts) (serial : ℕ) → o.reply ≡ Accepted counts serial → IsDone s b o.state
  pub repeated : (counts : Counts) (serial : ℕ) → o.reply ≡ Repeated counts serial → o.state ≡ s
  pub refused : (why : Refusal) (place : Option ℕ) → o.reply ≡ Refused why place → o.state ≡ s

fresh_reports : (s : State) (b : BatchValue) (serial : ℕ) (r : Result State (ℕ × Refusal)) → edited 1 s b.edits ≡ r → Reports s b (fresh s b serial r)
fresh_reports s b serial (Ok t) is = record {
  accepted = λ counts n e. record { done = t; is = is; collections = refl };
  repeated = λ counts n e. absurd cc;
  refused = λ why place e. absurd cc;
}
fresh_reports s b serial (Err f) is = record {
  accepted = λ counts n e. absurd cc;
  repeated = λ counts n e. refl;
  refused = λ why place e. refl;
}

by_key_reports : (s : State) (b : BatchValue) (o : Option AcceptedBatch) → Reports s b (by_key s b o)
by_key_reports s b (Some kept) = either (Reports s b) (pointwise nat_eq kept.text (batch_text b)) _ _
    (record { accepted = λ counts n e. absurd cc; repeated = λ counts n e. refl; refused = λ why place e. refl })
    (record { accepted = λ counts n e. absurd cc; repeated = λ counts n e. refl; refused = λ why place e. refl })
by_key_reports s b None = either (Reports s b) (nat_lt (len s.keys) most_batches) _ _
    (fresh_reports s b (len s.keys + 1) (edited 1 s b.edits) refl)
    (record { accepted = λ counts n e. absurd cc; repeated = λ counts n e. refl; refused = λ why place e. refl })

pub act_reports : (s : State) (b : BatchValue) → Reports s b (act s b)
act_reports s b = by_key_reports s b (get s.keys b.key)

-- an index of a state is one of each state with the same collections
same_collections : (index : Index) (s t : State) → t.collections ≡ s.collections → IsIndexOf index s → IsIndexOf index t
same_collections index s t same known = (
  λ name o there. subst (λ found. IsOutlinedIf o (get found name)) (sym same) (known.0 name o there),
  λ whole name d there. known.1 whole name d (subst (λ found. get found name ≡ Some d) same there),
)

-- an index that followed the edits is one of the state after the batch
pub followed_batch : (s : State) (b : BatchValue) (counts : Counts) (serial : ℕ) (index : Index) → (act s b).reply ≡ Accepted counts serial →
    ((t : State) → edited 1 s b.edits ≡ Ok t → IsIndexOf index t) → IsIndexOf index (act s b).state
followed_batch s b counts serial index is followed =
    let done = (act_reports s b).accepted counts serial is in
    same_collections index done.done (act s b).state done.collections (followed done.done done.is)

-- a fault of a batch, on a keeper whose index takes note of it
pub noted_writes : {K : Type 0} (model : Model K) (old new : IndexedKeeper K) (s : State) (b : BatchValue) (fault : Fault) → IsNoted fault old.index new.index →
    IsIndexOf old.index s
    → Writes model old.keeper new.keeper s b (Err fault) → Writes (indexed model) old new s b (Err fault)
noted_writes model old new s b Memory noted index h = (h, subst (λ (m : Index). IsIndexOf m s) (sym noted) index)
noted_writes model old new s b Device noted index h = h
noted_writes model old new s b Damaged noted index h = h
noted_writes model old new s b Reopen noted index h = h

-- ---- edits one by one
first_by : (at : ℕ) (s t : State) (e : EditValue) (es : List EditValue) (r : Result State Refusal) → step s e ≡ r → (placed at r >>= λ u. edited (at + 1) u es)
    ≡ Ok t → (u : State) × (step s e ≡ Ok u) × (edited (at + 1) u es ≡ Ok t)
first_by at s t e es (Ok u) is done = (u, is, done)
first_by at s t e es (Err why) is done = absurd cc

pub first_done : (at : ℕ) (s t : State) (e : EditValue) (es : List EditValue) → edited at s (e ∷ es) ≡ Ok t → (u : State) × (step s e ≡ Ok u)
    × (edited (at + 1) u es ≡ Ok t)
first_done at s t e es done = first_by at s t e es (step s e) refl done

pub none_done : (at : ℕ) (s t : State) → edited at s [] ≡ Ok t → s ≡ t
none_done at s t done = cc
