-- Calls of a keeper with an index, by those of the keeper below.
use Rattle.std.proofs.Common.{◌≡◌, Option, Some, Result, Ok, Err, sym, subst}
use Rattle.streetmap_batch.specs.BatchValue.{BatchValue}
use Rattle.streetmap_ledger.specs.State.{State}
use Rattle.streetmap_ledger.specs.Model.{Model}
use Rattle.streetmap_ledger.specs.Keep.{Reads, Writes, IsCall, IsRead, IsWrite}
use Rattle.streetmap_ledger.specs.declared.reply.Fault.{Fault}
use Rattle.streetmap_ledger.specs.declared.reply.Reply.{Reply}
use Rattle.streetmap_ledger.specs.declared.reply.Fault.TheVariants.{Memory, Device, Damaged, Reopen}
use Rattle.streetmap_index.specs.Index.{IsIndexOf, IsNoted}
use Rattle.streetmap_index.specs.Indexed.{indexed}
use Rattle.streetmap_index.specs.declared.index.Index.{Index}
use Rattle.streetmap_index.specs.declared.keeper.IndexedKeeper.{IndexedKeeper}

-- the model and the keepers are passed to these, as no part of them can be found in a table
module _ {K : Type 0} (model : Model K) where
  -- the index is still of the state
  reads_over : (T : Type 0) (a b : IndexedKeeper K) (s : State) (Is : T → Type 0) (r : Result T Fault) → Reads model a.keeper b.keeper s Is r →
      IsIndexOf b.index s → Reads (indexed model) a b s Is r
  reads_over T a b s Is (Ok x) h index = (h.0, (h.1, index))
  reads_over T a b s Is (Err Memory) h index = (h, index)
  reads_over T a b s Is (Err Device) h index = h
  reads_over T a b s Is (Err Damaged) h index = h
  reads_over T a b s Is (Err Reopen) h index = h

module _ {K : Type 0} {model : Model K} where
  call_over : {T : Type 0} {a b : IndexedKeeper K} {r : Result T Fault} → IsCall model a.keeper b.keeper r → IsCall (indexed model) a b r
  call_over call = record {
    preserved = call.preserved;
    began_clean = call.began_clean;
    faults = call.faults;
    reopen = call.reopen;
  }

  -- a read of the keeper below, which says how it is one of the keeper with its index
  pub read_over : {T : Type 0} {a b : IndexedKeeper K} {r : Result T Fault} {Is As : State → T → Type 0} → IsRead model a.keeper b.keeper r Is
      → ((s : State) → model.represents a.keeper s → IsIndexOf a.index s → Reads model a.keeper b.keeper s (Is s) r → Reads (indexed model) a b s (As s) r)
      → IsRead (indexed model) a b r As
  read_over {T} {a} {b} {r} {Is} {As} read so = record {
    call = call_over read.call;
    reads = λ h s e. so s e.0 e.1 (read.reads h s e.0);
  }

  -- the index stays
  pub read_beside : {T : Type 0} {a b : IndexedKeeper K} {r : Result T Fault} {Is : State → T → Type 0} → IsRead model a.keeper b.keeper r Is → b.index
      ≡ a.index → IsRead (indexed model) a b r Is
  read_beside {T} {a} {b} {r} {Is} read same = read_over {As = Is} read (λ s e known found.
      reads_over model T a b s (Is s) r found (subst (λ (m : Index). IsIndexOf m s) (sym same) known))

  -- a batch on the keeper below, and the index follows it
  pub write_over : {a b : IndexedKeeper K} {k : K} {batch : BatchValue} {r : Result Reply Fault} → IsWrite model a.keeper k batch r → b.keeper ≡ k
      → ((s : State) → model.represents a.keeper s → IsIndexOf a.index s → Writes model a.keeper b.keeper s batch r → Writes (indexed model) a b s batch r)
      → IsWrite (indexed model) a b batch r
  write_over {a} {b} {k} {batch} {r} below same so =
      let write = subst (λ n. IsWrite model a.keeper n batch r) (sym same) below in
      record {
        applied = write.applied;
        call = call_over write.call;
        writes = λ h s e. so s e.0 e.1 (write.writes h s e.0);
      }

module _ {K : Type 0} (model : Model K) where
  -- the index takes note of the fault
  reads_noted : (T : Type 0) (a b c : IndexedKeeper K) (s : State) (Is : T → Type 0) (fault : Fault) → c.keeper ≡ b.keeper → IsNoted fault b.index c.index →
      Reads (indexed model) a b s Is (Err fault) → Reads (indexed model) a c s Is (Err fault)
  reads_noted T a b c s Is Memory same noted h = (subst (λ k. model.represents k s) (sym same) h.0, subst (λ (m : Index). IsIndexOf m s) (sym noted) h.1)
  reads_noted T a b c s Is Device same noted h = (
    subst (λ k. model.fails a.keeper k) (sym same) h.0,
    subst (λ k. (o : Option State) → model.may_leave k o → o ≡ Some s) (sym same) h.1,
  )
  reads_noted T a b c s Is Damaged same noted h = h
  reads_noted T a b c s Is Reopen same noted h = h

  pub read_noted : {T : Type 0} {a b c : IndexedKeeper K} {fault : Fault} {Is : State → T → Type 0} → IsRead (indexed model) a b (Err fault) Is → c.keeper
      ≡ b.keeper → IsNoted fault b.index c.index → IsRead (indexed model) a c (Err fault) Is
  read_noted {T} {a} {b} {c} {fault} {Is} read same noted =
      let clean = λ (h : model.is_clean c.keeper). subst model.is_clean same h in
      let below : IsCall {T = T} model a.keeper b.keeper (Err fault) = record {
        preserved = read.call.preserved;
        began_clean = read.call.began_clean;
        faults = read.call.faults;
        reopen = read.call.reopen;
      } in
      record {
        call = call_over (subst (λ k. IsCall {T = T} model a.keeper k (Err fault)) (sym same) below);
        reads = λ h s e. reads_noted T a b c s (Is s) fault same noted (read.reads (clean h) s e);
      }

  -- the index alone changed before a read, and is still of the state
  reads_from : (T : Type 0) (a b c : IndexedKeeper K) (s : State) (Is : T → Type 0) (r : Result T Fault) → b.keeper ≡ a.keeper →
      Reads (indexed model) b c s Is r → Reads (indexed model) a c s Is r
  reads_from T a b c s Is (Ok x) same h = h
  reads_from T a b c s Is (Err Memory) same h = h
  reads_from T a b c s Is (Err Device) same h = (subst (λ k. model.fails k c.keeper) same h.0, h.1)
  reads_from T a b c s Is (Err Damaged) same h = h
  reads_from T a b c s Is (Err Reopen) same h = h

  pub read_after_change : {T : Type 0} {a b c : IndexedKeeper K} {r : Result T Fault} {Is : State → T → Type 0} → IsRead (indexed model) b c r Is → b.keeper
      ≡ a.keeper → ((s : State) → IsIndexOf a.index s → IsIndexOf b.index s) → IsRead (indexed model) a c r Is
  read_after_change {T} {a} {b} {c} {r} {Is} read same so =
      let from : (s : State) → model.represents a.keeper s × IsIndexOf a.index s → model.represents b.keeper s × IsIndexOf b.index s = λ s e.
      (subst (λ k. model.represents k s) (sym same) e.0, so s e.1) in
      let below : IsCall {T = T} model b.keeper c.keeper r = record {
        preserved = read.call.preserved;
        began_clean = read.call.began_clean;
        faults = read.call.faults;
        reopen = read.call.reopen;
      } in
      record {
        call = call_over (subst (λ k. IsCall {T = T} model k c.keeper r) same below);
        reads = λ h s e. reads_from T a b c s (Is s) r same (read.reads h s (from s e));
      }
