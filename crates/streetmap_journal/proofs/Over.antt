-- Calls of a keeper with a journal, by those of the keeper below.
use Rattle.std.proofs.Common.{◌≡◌, ℕ, List, Option, None, Some, Result, Ok, Err, refl, sym, subst, inl}
use Rattle.std.specs.Prelude.{IsErr, IfOk}
use Rattle.streetmap_batch.specs.BatchValue.{BatchValue}
use Rattle.streetmap_ledger.specs.Batches.{act}
use Rattle.streetmap_ledger.specs.Model.{Model}
use Rattle.streetmap_ledger.specs.Keep.{Reads, Writes, IsCall, IsRead}
use Rattle.streetmap_ledger.specs.State.{State}
use Rattle.streetmap_ledger.specs.declared.reply.Fault.{Fault}
use Rattle.streetmap_ledger.specs.declared.reply.Reply.{Reply}
use Rattle.streetmap_ledger.specs.declared.reply.Fault.TheVariants.{Memory, Device, Damaged, Reopen}
use Rattle.streetmap_replay.specs.Calls.{fails_by, Stays}
use Rattle.streetmap_journal.specs.Journaled.{journaled}
use Rattle.streetmap_journal.specs.Reports.{IsFor, IsForIf}
use Rattle.streetmap_journal.specs.Written.{OfReply}
use Rattle.streetmap_journal.specs.declared.journal.Journal.{Journal}
use Rattle.streetmap_journal.specs.declared.keeper.JournaledKeeper.{JournaledKeeper}

pub of_reply : (came : Result Reply Fault → Type 0) (r : Result Reply Fault) → came r → OfReply came r
of_reply came (Ok reply) h = h
of_reply came (Err fault) h = tt

-- the state after a batch, or after a fault
abbrev pub state_by : State → BatchValue → Result Reply Fault → State
state_by s b (Ok reply) = (act s b).state
state_by s b (Err fault) = s

module _ {K : Type 0} (model : Model K) where
  -- reads were made before
  pub writes_from : (a b c : K) (s : State) (batch : BatchValue) (r : Result Reply Fault) → (model.fails b c → model.fails a c) → Writes model b c s batch r →
      Writes model a c s batch r
  writes_from a b c s batch (Ok reply) before h = h
  writes_from a b c s batch (Err Memory) before h = h
  writes_from a b c s batch (Err Device) before h = (before h.0, h.1)
  writes_from a b c s batch (Err Damaged) before h = h
  writes_from a b c s batch (Err Reopen) before h = h

  -- a batch that was not given to the keeper
  pub not_requested : (a b : K) (s : State) (batch : BatchValue) (fault : Fault) → Stays model a b s (fails_by fault) → Writes model a b s batch (Err fault)
  not_requested a b s batch Memory h = h
  not_requested a b s batch Device h = (h.0, λ o may. inl (h.1 o may))
  not_requested a b s batch Damaged h = h
  not_requested a b s batch Reopen h = h

module _ {W : Type 0} (contents : W → Option (List ℕ)) (reported : W → Option ℕ) (kept : W → Type 0) where
  -- no journal
  pub none_for : (journal : Option (Journal W)) (s : State) → journal ≡ None → IsForIf contents reported kept journal s
  none_for None s none = tt
  none_for (Some journal) s none = absurd cc

  -- a journal whose lines a batch changes only if it was answered
  pub for_after : (s : State) (batch : BatchValue) (r : Result Reply Fault) (old new : Journal W) → (IsErr r → new ≡ old) →
      IfOk r (λ _. IsFor contents reported kept new (act s batch).state)
      → IsFor contents reported kept old s → IsFor contents reported kept new (state_by s batch r)
  for_after s batch (Ok reply) old new same after before = after
  for_after s batch (Err fault) old new same after before = subst (λ (j : Journal W). IsFor contents reported kept j s) (sym (same refl)) before

-- the parts of the model cannot be inferred from `journaled`, so they are passed
module _ {K W : Type 0} (model : Model K) (contents : W → Option (List ℕ)) (reported : W → Option ℕ) (kept : W → Type 0) (fails : W → W → Type 0) where
  pub call_over : {T : Type 0} {a b : JournaledKeeper K W} {r : Result T Fault} → IsCall model a.keeper b.keeper r →
      IsCall (journaled model contents reported kept fails) a b r
  call_over call = record {
    preserved = call.preserved;
    began_clean = call.began_clean;
    faults = call.faults;
    reopen = call.reopen;
  }

  -- the journal is for the state still
  reads_over : (T : Type 0) (a b : JournaledKeeper K W) (s : State) (Is : T → Type 0) (r : Result T Fault) → Reads model a.keeper b.keeper s Is r →
      IsForIf contents reported kept b.journal s
      → Reads (journaled model contents reported kept fails) a b s Is r
  reads_over T a b s Is (Ok x) h for = (h.0, (h.1, for))
  reads_over T a b s Is (Err Memory) h for = (h, for)
  reads_over T a b s Is (Err Device) h for = h
  reads_over T a b s Is (Err Damaged) h for = h
  reads_over T a b s Is (Err Reopen) h for = h

  -- the journal stays
  pub read_beside : {T : Type 0} {a b : JournaledKeeper K W} {r : Result T Fault} {Is : State → T → Type 0} → IsRead model a.keeper b.keeper r Is → b.journal
      ≡ a.journal
      → IsRead (journaled model contents reported kept fails) a b r Is
  read_beside {T} {a} {b} {r} {Is} read same = record {
    call = call_over read.call;
    reads = λ h s e. reads_over T a b s (Is s) r (read.reads h s e.0) (subst (λ (j : Option (Journal W)). IsForIf contents reported kept j s) (sym same) e.1);
  }

  -- a batch, and the journal is for the state after it
  pub writes_over : (a b : JournaledKeeper K W) (s : State) (batch : BatchValue) (r : Result Reply Fault) → Writes model a.keeper b.keeper s batch r
      → IsForIf contents reported kept b.journal (state_by s batch r) → Writes (journaled model contents reported kept fails) a b s batch r
  writes_over a b s batch (Ok reply) h for = (h.0, (h.1, for))
  writes_over a b s batch (Err Memory) h for = (h, for)
  writes_over a b s batch (Err Device) h for = h
  writes_over a b s batch (Err Damaged) h for = h
  writes_over a b s batch (Err Reopen) h for = h
