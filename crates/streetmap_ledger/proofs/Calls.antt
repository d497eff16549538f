-- Calls of a keeper, one after the other.
use Rattle.std.proofs.Common.{◌≡◌, Bool, true, false, Option, Some, None, IsSome, Result, Ok, Err, refl, sym, ap, subst, ◌∙◌}
use Rattle.std.specs.Prelude.{IsErrOf, is_none}
use Rattle.streetmap_ledger.specs.State.{State}
use Rattle.streetmap_ledger.specs.Model.{Model}
use Rattle.streetmap_ledger.specs.Keep.{Reads, ShutsBy, IsCall, IsRead}
use Rattle.streetmap_ledger.specs.declared.reply.Cause.{Cause}
use Rattle.streetmap_ledger.specs.declared.reply.Fault.{Fault}
use Rattle.streetmap_ledger.specs.declared.reply.Fault.TheVariants.{Memory, Device, Damaged, Reopen}

-- the same fault, whatever the call would have returned
same_err : {T U : Type 0} (fault why : Fault) → IsErrOf {T = T} (Err fault) why → IsErrOf {T = U} (Err fault) why
same_err fault why h = let same : fault ≡ why = cc in ap (λ f. Err f) same

shuts_too : (T U : Type 0) (fault : Fault) (old new : Option Cause) → ShutsBy {T = T} (Err fault) old new → ShutsBy {T = U} (Err fault) old new
shuts_too T U Memory old new h = h
shuts_too T U Device old new h = h
shuts_too T U Damaged old new h = h
shuts_too T U Reopen old new h = h

-- no open keeper answers `Reopen`
open_has : {T A : Type 0} (r : Result T Fault) (old new : Option Cause) → ShutsBy r old new → old ≡ None → IsErrOf r Reopen → A
open_has r old new shuts is err =
    let shut = (subst (λ q. ShutsBy q old new) err shuts).0 in
    let P : Option Cause → Type 0 = λ o. IsSome o in
    let none : P None = subst P is shut in
    absurd cc

-- a keeper that says so is open
pub open_of : {T : Type 0} (o : Option T) (b : Bool) → b ≡ is_none o → b ≡ true → o ≡ None
open_of None b says on = refl
open_of (Some x) b says on = absurd cc

-- and one that does not is shut
pub shut_of : {T : Type 0} (o : Option T) (b : Bool) → b ≡ is_none o → b ≡ false → IsSome o
shut_of None b says off = absurd cc
shut_of (Some x) b says off = refl

module _ {K : Type 0} (model : Model K) where
  -- a fault that is passed on
  fault_too : (T U : Type 0) (a b : K) (s : State) (Is : T → Type 0) (As : U → Type 0) (fault : Fault) → Reads model a b s Is (Err fault) →
      Reads model a b s As (Err fault)
  fault_too T U a b s Is As Memory h = h
  fault_too T U a b s Is As Device h = h
  fault_too T U a b s Is As Damaged h = h
  fault_too T U a b s Is As Reopen h = h

  -- a weaker fact about what was found, with earlier calls before
  reads_so : (T : Type 0) (a b c : K) (s : State) (Is As : T → Type 0) (r : Result T Fault) → ((x : T) → Is x → As x) → (model.fails b c → model.fails a c) →
      Reads model b c s Is r → Reads model a c s As r
  reads_so T a b c s Is As (Ok x) so before h = (so x h.0, h.1)
  reads_so T a b c s Is As (Err Memory) so before h = h
  reads_so T a b c s Is As (Err Device) so before h = (before h.0, h.1)
  reads_so T a b c s Is As (Err Damaged) so before h = h
  reads_so T a b c s Is As (Err Reopen) so before h = h

module _ {K : Type 0} {model : Model K} where
  -- no call was made
  pub no_read : {T : Type 0} (keeper : K) (x : T) {Is : State → T → Type 0} → model.cause keeper ≡ None → ((s : State) → model.represents keeper s → Is s x) →
      IsRead model keeper keeper (Ok x) Is
  no_read keeper x unshut is = record {
    call = record {
      preserved = model.preserves_itself keeper;
      began_clean = λ h. h;
      faults = (unshut, unshut);
      reopen = λ err. absurd cc;
    };
    reads = λ h s e. (is s e, e);
  }

  -- a shut keeper is not called
  pub shut_read : {T : Type 0} (keeper : K) {Is : State → T → Type 0} → IsSome (model.cause keeper) → IsRead model keeper keeper (Err Reopen) Is
  shut_read keeper shut = record {
    call = record {
      preserved = model.preserves_itself keeper;
      began_clean = λ h. h;
      faults = (shut, refl);
      reopen = λ err o. (λ left. left, λ left. left);
    };
    reads = λ h s e. model.shut_has_none keeper s shut e;
  }

  -- two calls, of which the first was answered
  pub call_then : {T U : Type 0} {a b c : K} {x : T} {r : Result U Fault} → IsCall model a b (Ok x) → IsCall model b c r → IsCall model a c r
  call_then {T} {U} {a} {b} {c} {x} {r} one two =
      let opens = one.faults in
      record {
        preserved = model.preserves_then a b c one.preserved two.preserved;
        began_clean = λ h. one.began_clean (two.began_clean h);
        faults = subst (λ o. ShutsBy r o (model.cause c)) (opens.1 ∙ sym opens.0) two.faults;
        reopen = λ err. open_has r _ _ two.faults opens.1 err;
      }

  -- two reads, of which the first was answered
  pub read_then : {T U : Type 0} {a b c : K} {x : T} {r : Result U Fault} {Is : State → T → Type 0} {As Both : State → U → Type 0} → IsRead model a b (Ok x) Is
      → IsRead model b c r As
      → ((s : State) (y : U) → model.represents a s → Is s x → As s y → Both s y)
      → IsRead model a c r Both
  read_then {T} {U} {a} {b} {c} {x} {r} {Is} {As} {Both} first second both = record {
    call = call_then first.call second.call;
    reads = λ h s e.
        let found = first.reads (second.call.began_clean h) s e in
        reads_so model U a b c s (As s) (Both s) r (λ y is. both s y e found.0 is) (model.fails_later a b c first.call.preserved second.call.preserved)
        (second.reads h s found.1);
  }

  -- a weaker fact about what was found
  pub read_so : {T : Type 0} {a b : K} {r : Result T Fault} {Is As : State → T → Type 0} → IsRead model a b r Is →
      ((s : State) (x : T) → model.represents a s → Is s x → As s x) → IsRead model a b r As
  read_so {T} {a} {b} {r} {Is} {As} read so = record {
    call = read.call;
    reads = λ h s e. reads_so model T a a b s (Is s) (As s) r (λ x is. so s x e is) (λ failed. failed) (read.reads h s e);
  }

  -- a result made from what was found
  call_made : {T U : Type 0} {a b : K} {x : T} {y : U} → IsCall model a b (Ok x) → IsCall model a b (Ok y)
  call_made call = record {
    preserved = call.preserved;
    began_clean = call.began_clean;
    faults = call.faults;
    reopen = λ err. absurd cc;
  }

  pub read_made : {T U : Type 0} {a b : K} {x : T} {Is : State → T → Type 0} {y : U} {As : State → U → Type 0} → IsRead model a b (Ok x) Is →
      ((s : State) → model.represents a s → Is s x → As s y) → IsRead model a b (Ok y) As
  read_made {T} {U} {a} {b} {x} {Is} {y} {As} read so = record {
    call = call_made read.call;
    reads = λ h s e. (so s e (read.reads h s e).0, (read.reads h s e).1);
  }

  -- two reads that both succeeded
  pub read_after : {T U V : Type 0} {a b c : K} {x : T} {y : U} {z : V} {Is : State → T → Type 0} {As : State → U → Type 0} {Both : State → V → Type 0} →
      IsRead model a b (Ok x) Is → IsRead model b c (Ok y) As
      → ((s : State) → model.represents a s → Is s x → As s y → Both s z)
      → IsRead model a c (Ok z) Both
  read_after {T} {U} {V} {a} {b} {c} {x} {y} {z} {Is} {As} {Both} first second both =
      read_made (read_then {Both = λ s u. Is s x × As s u} first second (λ s u e is also. (is, also))) (λ s e found. both s e found.0 found.1)

  -- a fault that is passed on
  pub call_failed : {T U : Type 0} {a b : K} {fault : Fault} → IsCall {T = T} model a b (Err fault) → IsCall {T = U} model a b (Err fault)
  call_failed {T} {U} {a} {b} {fault} call = record {
    preserved = call.preserved;
    began_clean = call.began_clean;
    faults = shuts_too T U fault (model.cause a) (model.cause b) call.faults;
    reopen = λ err. call.reopen (same_err {T = U} {U = T} fault Reopen err);
  }

  pub read_failed : {T U : Type 0} {a b : K} {fault : Fault} {Is : State → T → Type 0} {As : State → U → Type 0} → IsRead model a b (Err fault) Is →
      IsRead model a b (Err fault) As
  read_failed {T} {U} {a} {b} {fault} {Is} {As} read = record {
    call = call_failed read.call;
    reads = λ h s e. fault_too model T U a b s (Is s) (As s) fault (read.reads h s e);
  }

  -- a result that does not need what a read failed to find as memory ran out
  pub read_kept : {T U : Type 0} {a b : K} {Is : State → T → Type 0} {y : U} {As : State → U → Type 0} → IsRead model a b (Err Memory) Is →
      ((s : State) → model.represents a s → As s y) → IsRead model a b (Ok y) As
  read_kept {T} {U} {a} {b} {Is} {y} {As} read so = record {
    call = record {
      preserved = read.call.preserved;
      began_clean = read.call.began_clean;
      faults = read.call.faults;
      reopen = λ err. absurd cc;
    };
    reads = λ h s e. (so s e, read.reads h s e);
  }
