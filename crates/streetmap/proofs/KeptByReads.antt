-- Reads of a keeper, one after the other.
use Rattle.std.proofs.Common.{◌≡◌, None, Some, Result, Ok, Err, subst}
use Rattle.std.specs.Prelude.{IsOk, IsErr, true, false}
use Rattle.streetmap_ledger.specs.State.{State}
use Rattle.streetmap_ledger.specs.Model.{Model}
use Rattle.streetmap_ledger.specs.Keep.{IsRead, Reads, LeavesOnly}
use Rattle.streetmap_ledger.specs.declared.reply.Fault.{Fault}
use Rattle.streetmap_ledger.specs.declared.reply.Fault.TheVariants.{Memory, Device, Damaged, Reopen}
use Rattle.streetmap_replay.specs.Calls.{LastAnswer, Stays, AreReads}
use Rattle.streetmap.specs.Kept.{IsKept}

-- a call that failed is not done
pub not_done : {T E A : Type 0} (r : Result T E) → IsErr r → IsOk r → A
not_done (Ok x) err ok = absurd (let bad : false ≡ true = err in cc)
not_done (Err e) err ok = absurd (let bad : false ≡ true = ok in cc)

module _ {K : Type 0} (model : Model K) where
  -- whatever a read returned, a crash leaves the state alone
  leaves_read : (T : Type 0) (a b : K) (s : State) (Is : T → Type 0) (r : Result T Fault) → Reads model a b s Is r → LeavesOnly (model.may_leave b) (Some s)
  leaves_read T a b s Is (Ok x) h = model.leaves_it b s h.1
  leaves_read T a b s Is (Err Memory) h = model.leaves_it b s h
  leaves_read T a b s Is (Err Device) h = h.1
  leaves_read T a b s Is (Err Damaged) h = absurd h
  leaves_read T a b s Is (Err Reopen) h = absurd h

  leaves_still : (a b : K) (s : State) (last : LastAnswer) → Stays model a b s last → LeavesOnly (model.may_leave b) (Some s)
  leaves_still a b s None h = model.leaves_it b s h
  leaves_still a b s (Some (Ok done)) h = model.leaves_it b s h
  leaves_still a b s (Some (Err Memory)) h = model.leaves_it b s h
  leaves_still a b s (Some (Err Device)) h = h.1
  leaves_still a b s (Some (Err Damaged)) h = absurd h
  leaves_still a b s (Some (Err Reopen)) h = absurd h

  read_stays : (T : Type 0) (a b : K) (s : State) (Is : T → Type 0) (r : Result T Fault) (x : T) → r ≡ Ok x → Reads model a b s Is r → model.represents b s
  read_stays T a b s Is r x ok h = (subst (λ (q : Result T Fault). Reads model a b s Is q) ok h).1

  done_stays : (a b : K) (s : State) (last : LastAnswer) → last ≡ Some (Ok tt) → Stays model a b s last → model.represents b s
  done_stays a b s last ok h = subst (λ (l : LastAnswer). Stays model a b s l) ok h

module _ {K : Type 0} {model : Model K} where
  -- no call was made
  pub kept_itself : (k : K) (done : Type 0) → IsKept model k k done
  kept_itself k done = record {
    preserved = model.preserves_itself k;
    began_clean = λ h. h;
    leaves = λ h s is. model.leaves_it k s is;
    stays = λ d h s is. is;
  }

  -- one call, which was answered if all was done
  pub kept_read : {T : Type 0} {a b : K} {r : Result T Fault} {Is : State → T → Type 0} (done : Type 0) → IsRead model a b r Is → (done → (x : T) × (r ≡ Ok x))
      → IsKept model a b done
  kept_read {T} {a} {b} {r} {Is} done read ok = record {
    preserved = read.call.preserved;
    began_clean = read.call.began_clean;
    leaves = λ h s is. leaves_read model T a b s (Is s) r (read.reads h s is);
    stays = λ d h s is. read_stays model T a b s (Is s) r (ok d).0 (ok d).1 (read.reads h s is);
  }

  -- any number of calls; if all was done, the last did not end with a fault
  pub kept_reads : {a b : K} {last : LastAnswer} (done : Type 0) → AreReads model a b last → (done → last ≡ Some (Ok tt)) → IsKept model a b done
  kept_reads {a} {b} {last} done reads ok = record {
    preserved = reads.calls.preserved;
    began_clean = reads.calls.began_clean;
    leaves = λ h s is. leaves_still model a b s last (reads.stays h s is);
    stays = λ d h s is. done_stays model a b s last (ok d) (reads.stays h s is);
  }

  -- calls after calls that were all done
  pub kept_then : {a b c : K} {one two : Type 0} → one → IsKept model a b one → IsKept model b c two → IsKept model a c two
  kept_then {a} {b} {c} did first second = record {
    preserved = model.preserves_then a b c first.preserved second.preserved;
    began_clean = λ h. first.began_clean (second.began_clean h);
    leaves = λ h s is. second.leaves h s (first.stays did (second.began_clean h) s is);
    stays = λ d h s is. second.stays d h s (first.stays did (second.began_clean h) s is);
  }

  -- the condition of being done may be strengthened
  pub kept_if : {a b : K} {one two : Type 0} → (two → one) → IsKept model a b one → IsKept model a b two
  kept_if so it = record {
    preserved = it.preserved;
    began_clean = it.began_clean;
    leaves = it.leaves;
    stays = λ d h s is. it.stays (so d) h s is;
  }
