-- Calls of a keeper, one after the other.
use Rattle.std.proofs.Common.{◌≡◌, Option, None, Some, IsSome, Result, Ok, Err, refl, sym, subst, ◌∙◌}
use Rattle.std.specs.Prelude.{IsErrOf}
use Rattle.streetmap_ledger.specs.Model.{Model}
use Rattle.streetmap_ledger.specs.Keep.{Reads, ShutsBy, LeavesSame, IsCall, IsRead}
use Rattle.streetmap_ledger.specs.State.{State}
use Rattle.streetmap_ledger.specs.declared.reply.Cause.{Cause}
use Rattle.streetmap_ledger.specs.declared.reply.Fault.{Fault}
use Rattle.streetmap_ledger.specs.declared.reply.Fault.TheVariants.{Memory, Device, Damaged, Reopen}
use Rattle.streetmap_ledger.proofs.Calls.{call_failed}
use Rattle.streetmap_replay.specs.Calls.{LastAnswer, fails_by, CallsShut, ShutStays, AreCalls, Stays, AreReads}

pub not_shut : {A : Type 0} (cause : Option Cause) → cause ≡ None → IsSome cause → A
not_shut None none shut = absurd cc
not_shut (Some why) none shut = absurd cc

-- only a shut keeper answers `Reopen`
was_shut : {T : Type 0} (r : Result T Fault) (old new : Option Cause) → ShutsBy r old new → IsErrOf r Reopen → IsSome old
was_shut {T} r old new shuts err = (subst (λ (q : Result T Fault). ShutsBy q old new) err shuts).0

module _ {K : Type 0} (model : Model K) where
  -- calls were made before
  shut_then : (a b c : K) (last : LastAnswer) → b ≡ a → ShutStays model b c last → ShutStays model a c last
  shut_then a b c None same h = h ∙ same
  shut_then a b c (Some result) same h = subst (λ (k : K). LeavesSame (model.may_leave k) (model.may_leave c)) same h

  stays_from : (a b c : K) (s : State) (last : LastAnswer) → (model.fails b c → model.fails a c) → Stays model b c s last → Stays model a c s last
  stays_from a b c s None before h = h
  stays_from a b c s (Some (Ok done)) before h = h
  stays_from a b c s (Some (Err Memory)) before h = h
  stays_from a b c s (Some (Err Device)) before h = (before h.0, h.1)
  stays_from a b c s (Some (Err Damaged)) before h = h
  stays_from a b c s (Some (Err Reopen)) before h = h

  -- a read that failed
  stays_by : (T : Type 0) (a b : K) (s : State) (Is : T → Type 0) (fault : Fault) → Reads model a b s Is (Err fault) → Stays model a b s (fails_by fault)
  stays_by T a b s Is Memory h = h
  stays_by T a b s Is Device h = h
  stays_by T a b s Is Damaged h = h
  stays_by T a b s Is Reopen h = h

module _ {K : Type 0} {model : Model K} where
  -- a shut keeper answered `Reopen`
  same_if : {a b : K} (fault : Fault) → IsCall {T = Unit {0}} model a b (Err fault) → IsSome (model.cause a) →
      LeavesSame (model.may_leave a) (model.may_leave b)
  same_if {a} Memory call shut = not_shut (model.cause a) call.faults.0 shut
  same_if {a} Device call shut = not_shut (model.cause a) call.faults.0 shut
  same_if {a} Damaged call shut = not_shut (model.cause a) call.faults.0 shut
  same_if Reopen call shut = call.reopen refl

  -- no call was made
  pub no_calls : (k : K) → AreCalls model k k None
  no_calls k = record {
    preserved = model.preserves_itself k;
    began_clean = λ h. h;
    faults = refl;
    shut = λ shut. refl;
  }

  -- a call that was answered
  pub answered : {T : Type 0} {a b : K} {x : T} → IsCall model a b (Ok x) → AreCalls model a b (Some (Ok tt))
  answered {T} {a} {b} {x} call = record {
    preserved = call.preserved;
    began_clean = call.began_clean;
    faults = call.faults;
    shut = λ shut. not_shut (model.cause a) call.faults.0 shut;
  }

  -- if it only matters that the call was no fault
  pub no_fault : {a b : K} → AreCalls model a b (Some (Ok tt)) → AreCalls model a b None
  no_fault {a} {b} calls = record {
    preserved = calls.preserved;
    began_clean = calls.began_clean;
    faults = calls.faults.1 ∙ sym calls.faults.0;
    shut = λ shut. not_shut (model.cause a) calls.faults.0 shut;
  }

  pub call_of : {T : Type 0} {a b : K} {x : T} → IsCall model a b (Ok x) → AreCalls model a b None
  call_of {T} {a} {b} {x} call = no_fault (answered call)

  -- a call that failed
  pub failed : {T : Type 0} {a b : K} {fault : Fault} → IsCall {T = T} model a b (Err fault) → AreCalls model a b (fails_by fault)
  failed {T} {a} {b} {fault} call =
      let same : IsCall {T = Unit {0}} model a b (Err fault) = call_failed call in
      record {
        preserved = same.preserved;
        began_clean = same.began_clean;
        faults = same.faults;
        shut = same_if fault same;
      }

  -- further calls, after some that were answered
  pub calls_then : {a b c : K} {last : LastAnswer} → AreCalls model a b None → AreCalls model b c last → AreCalls model a c last
  calls_then {a} {b} {c} {last} one two = record {
    preserved = model.preserves_then a b c one.preserved two.preserved;
    began_clean = λ h. one.began_clean (two.began_clean h);
    faults = subst (λ (o : Option Cause). CallsShut last o (model.cause c)) one.faults two.faults;
    shut = λ shut. shut_then model a b c last (one.shut shut) (two.shut (subst (λ (o : Option Cause). IsSome o) (sym one.faults) shut));
  }

  -- all of them as one call
  pub call_from : {T : Type 0} {a b : K} {fault : Fault} → AreCalls model a b (fails_by fault) → IsCall {T = T} model a b (Err fault)
  call_from {T} {a} {b} {fault} calls =
      let same : IsCall {T = Unit {0}} model a b (Err fault) = record {
        preserved = calls.preserved;
        began_clean = calls.began_clean;
        faults = calls.faults;
        reopen = λ err. calls.shut (was_shut {T = Unit {0}} (Err fault) (model.cause a) (model.cause b) calls.faults err);
      } in
      call_failed same

  pub call_after : {T : Type 0} {a b c : K} {r : Result T Fault} → AreCalls model a b None → IsCall model b c r → IsCall model a c r
  call_after {T} {a} {b} {c} {r} one two = record {
    preserved = model.preserves_then a b c one.preserved two.preserved;
    began_clean = λ h. one.began_clean (two.began_clean h);
    faults = subst (λ (o : Option Cause). ShutsBy r o (model.cause c)) one.faults two.faults;
    reopen = λ err.
        let shut = was_shut r (model.cause b) (model.cause c) two.faults err in
        let same = one.shut (subst (λ (o : Option Cause). IsSome o) one.faults shut) in
        subst (λ (k : K). LeavesSame (model.may_leave k) (model.may_leave c)) same (two.reopen err);
  }

  -- no read was made
  pub no_reads : (k : K) → AreReads model k k None
  no_reads k = record {
    calls = no_calls k;
    stays = λ h s e. e;
  }

  -- the same of an open keeper
  pub no_reads_open : (k : K) → model.cause k ≡ None → AreReads model k k (Some (Ok tt))
  no_reads_open k unshut = record {
    calls = record {
      preserved = model.preserves_itself k;
      began_clean = λ h. h;
      faults = (unshut, unshut);
      shut = λ shut. not_shut (model.cause k) unshut shut;
    };
    stays = λ h s e. e;
  }

  -- one that was answered
  pub answered_read : {T : Type 0} {a b : K} {x : T} {Is : State → T → Type 0} → IsRead model a b (Ok x) Is → AreReads model a b (Some (Ok tt))
  answered_read {T} {a} {b} {x} {Is} read = record {
    calls = answered read.call;
    stays = λ h s e. (read.reads h s e).1;
  }

  pub no_fault_read : {a b : K} → AreReads model a b (Some (Ok tt)) → AreReads model a b None
  no_fault_read reads = record {
    calls = no_fault reads.calls;
    stays = reads.stays;
  }

  pub read_of : {T : Type 0} {a b : K} {x : T} {Is : State → T → Type 0} → IsRead model a b (Ok x) Is → AreReads model a b None
  read_of read = no_fault_read (answered_read read)

  -- one that failed
  pub failed_read : {T : Type 0} {a b : K} {fault : Fault} {Is : State → T → Type 0} → IsRead model a b (Err fault) Is → AreReads model a b (fails_by fault)
  failed_read {T} {a} {b} {fault} {Is} read = record {
    calls = failed read.call;
    stays = λ h s e. stays_by model T a b s (Is s) fault (read.reads h s e);
  }

  -- one that was answered, and then memory ran out
  pub then_lost : {a b : K} → AreReads model a b (Some (Ok tt)) → AreReads model a b (fails_by Memory)
  then_lost {a} {b} reads = record {
    calls = record {
      preserved = reads.calls.preserved;
      began_clean = reads.calls.began_clean;
      faults = reads.calls.faults;
      shut = reads.calls.shut;
    };
    stays = reads.stays;
  }

  pub lost_read : {T : Type 0} {a b : K} {x : T} {Is : State → T → Type 0} → IsRead model a b (Ok x) Is → AreReads model a b (fails_by Memory)
  lost_read read = then_lost (answered_read read)

  -- further ones, after some that were answered
  pub reads_then : {a b c : K} {last : LastAnswer} → AreReads model a b None → AreReads model b c last → AreReads model a c last
  reads_then {a} {b} {c} {last} one two = record {
    calls = calls_then one.calls two.calls;
    stays = λ h s e. stays_from model a b c s last (model.fails_later a b c one.calls.preserved two.calls.preserved)
        (two.stays h s (one.stays (two.calls.began_clean h) s e));
  }
