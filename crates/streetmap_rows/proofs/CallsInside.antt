-- Calls inside a transaction, one after the other.
use Rattle.std.proofs.Common.{◌≡◌, ◌∙◌, Result, Ok, Err, OnOk, IfErr, IsErrAnd, subst, sym, arith}
use Rattle.sqlite.specs.declared.error.Error.{Error}
use Rattle.sqlite.specs.declared.transaction.Transaction.{Transaction}
use Rattle.sqlite.specs.Held.{state}
use Rattle.sqlite.specs.Store.{Ghosts}
use Rattle.sqlite.specs.State.{State as Seen, HasCleanDisk, Survives}
use Rattle.sqlite.proofs.InsideLemmas.{keeps_then}
use Rattle.sqlite.proofs.StateLemmas.{survives_then}
use Rattle.streetmap_rows.specs.Failures.{HasReason}
use Rattle.streetmap_rows.specs.TransactionCalls.{RunsInside, StaysInside}
use Rattle.streetmap_rows.proofs.ErrorReasons.{reason_later}

-- a call that means nothing more
abbrev pub Whatever : {A : Type 0} → Seen → Seen → A → Type 0
Whatever old new r = Unit {0}

survives_on : (a b c : Seen) → Survives a b (λ _. ⊥) → Survives b c (λ _. ⊥) → Survives a c (λ _. ⊥)
survives_on a b c p q = survives_then a b c (λ _. ⊥) (λ _. ⊥) (λ _. ⊥) (λ clean db h. h) (λ clean db h. h) p q

early : (b c : Seen) → Survives b c (λ _. ⊥) → HasCleanDisk c → HasCleanDisk b
early b c second clean = omega (arith, clean, second.clean)

-- the error of the second of two
later : {A : Type 0} (a b c : Seen) (r : Result A Error) → Survives a b (λ _. ⊥)
    → Survives b c (λ _. ⊥) → HasCleanDisk c → IfErr r (HasReason b c) → IfErr r (HasReason a c)
later a b c (Ok x) first second clean come = tt
later a b c (Err e) first second clean come = reason_later a b c e _ first (early b c second clean) second.counts come

passed : {A E : Type 0} (r : Result A E) (e : E) (P : E → Type 0) → IsErrAnd r (λ x. x ≡ e) → P e → IfErr r P
passed (Ok x) e P is come = absurd is
passed (Err x) e P is come = subst P (sym is) come

-- an error is no success
pub none : {A E : Type 0} (r : Result A E) (e : E) (P : Type 0) → IsErrAnd r (λ x. x ≡ e) → OnOk r P
none (Ok x) e P is = absurd is
none (Err x) e P is = tt

module _ {S : Type 0} {g : Ghosts S} {Cause : Seen → Seen → Error → Type 0} {old new : Transaction S} where
  pub runs_of : {A : Type 0} {M : Seen → Seen → Result A Error → Type 0} {r : Result A Error}
      → StaysInside g Cause M old new r → RunsInside g Cause M old new r
  runs_of run = record {
    same_reference = run.same_reference;
    does = run.does;
    reason = run.reason;
    survives = run.survives;
  }

  -- the result of a call means more
  pub runs_so : {A : Type 0} {M N : Seen → Seen → Result A Error → Type 0} {r : Result A Error}
      → RunsInside g Cause M old new r
      → (HasCleanDisk (state g new.conn.now) → N (state g old.conn.now) (state g new.conn.now) r)
      → RunsInside g Cause N old new r
  runs_so run means = record {
    same_reference = run.same_reference;
    does = means;
    reason = run.reason;
    survives = run.survives;
  }

  -- it is answered by another
  pub runs_ok : {A B : Type 0} {M : Seen → Seen → Result A Error → Type 0}
      {N : Seen → Seen → Result B Error → Type 0} {q : Result A Error} {x : B}
      → RunsInside g Cause M old new q
      → (HasCleanDisk (state g new.conn.now) → N (state g old.conn.now) (state g new.conn.now) (Ok x))
      → RunsInside g Cause N old new (Ok x)
  runs_ok run means = record {
    same_reference = run.same_reference;
    does = means;
    reason = λ clean. tt;
    survives = run.survives;
  }

  -- its error is passed on
  pub runs_err : {A B : Type 0} {M : Seen → Seen → Result A Error → Type 0}
      {N : Seen → Seen → Result B Error → Type 0} {e : Error} {r : Result B Error}
      → RunsInside g Cause M old new (Err e) → IsErrAnd r (λ x. x ≡ e)
      → (HasCleanDisk (state g new.conn.now) → N (state g old.conn.now) (state g new.conn.now) r)
      → RunsInside g Cause N old new r
  runs_err {e = e} {r = r} run is means = record {
    same_reference = run.same_reference;
    does = means;
    reason = λ clean. passed r e (Cause (state g old.conn.now) (state g new.conn.now)) is (run.reason clean);
    survives = run.survives;
  }

  -- the calls so far, in a loop
  pub so_far : new.conn.ghost_name ≡ old.conn.ghost_name
      → Survives (state g old.conn.now) (state g new.conn.now) (λ _. ⊥)
      → RunsInside g Cause (Whatever {A = Result (Unit {0}) Error}) old new (Ok tt)
  so_far same survives = record {
    same_reference = same;
    does = λ clean. tt;
    reason = λ clean. tt;
    survives = survives;
  }

-- ---- two calls

module _ {S A B : Type 0} {g : Ghosts S} {M : Seen → Seen → Result A Error → Type 0}
    {N : Seen → Seen → Result B Error → Type 0} {old mid new : Transaction S} {r : Result B Error} where
  pub runs_both : {q : Result A Error} → RunsInside g HasReason M old mid q
      → RunsInside g HasReason N mid new r → RunsInside g HasReason Whatever old new r
  runs_both one two =
      let a = state g old.conn.now in
      let b = state g mid.conn.now in
      let c = state g new.conn.now in
      record {
        same_reference = two.same_reference ∙ one.same_reference;
        does = λ clean. tt;
        reason = λ clean. later a b c r one.survives two.survives clean (two.reason clean);
        survives = survives_on a b c one.survives two.survives;
      }

  pub stays_both : {x : A} → StaysInside g HasReason M old mid (Ok x)
      → StaysInside g HasReason N mid new r → StaysInside g HasReason Whatever old new r
  stays_both one two =
      let a = state g old.conn.now in
      let b = state g mid.conn.now in
      let c = state g new.conn.now in
      record {
        same_reference = two.same_reference ∙ one.same_reference;
        does = λ clean. tt;
        inside = λ clean inside. two.inside clean (one.inside (early b c two.survives clean) inside);
        kept = λ clean inside.
            let first = early b c two.survives clean in
            keeps_then a b c (one.kept first inside) (two.kept clean (one.inside first inside));
        reason = λ clean. later a b c r one.survives two.survives clean (two.reason clean);
        survives = survives_on a b c one.survives two.survives;
      }

-- ---- the same of calls that leave the transaction open

module _ {S : Type 0} {g : Ghosts S} {Cause : Seen → Seen → Error → Type 0} {old new : Transaction S} where
  pub stays_so : {A : Type 0} {M N : Seen → Seen → Result A Error → Type 0} {r : Result A Error}
      → StaysInside g Cause M old new r
      → (HasCleanDisk (state g new.conn.now) → N (state g old.conn.now) (state g new.conn.now) r)
      → StaysInside g Cause N old new r
  stays_so run means = record {
    same_reference = run.same_reference;
    does = means;
    inside = run.inside;
    kept = run.kept;
    reason = run.reason;
    survives = run.survives;
  }

  pub stays_ok : {A B : Type 0} {M : Seen → Seen → Result A Error → Type 0}
      {N : Seen → Seen → Result B Error → Type 0} {y : A} {x : B}
      → StaysInside g Cause M old new (Ok y)
      → (HasCleanDisk (state g new.conn.now) → N (state g old.conn.now) (state g new.conn.now) (Ok x))
      → StaysInside g Cause N old new (Ok x)
  stays_ok run means = record {
    same_reference = run.same_reference;
    does = means;
    inside = run.inside;
    kept = run.kept;
    reason = λ clean. tt;
    survives = run.survives;
  }

  pub stays_err : {A B : Type 0} {M : Seen → Seen → Result A Error → Type 0}
      {N : Seen → Seen → Result B Error → Type 0} {e : Error} {r : Result B Error}
      → StaysInside g Cause M old new (Err e) → IsErrAnd r (λ x. x ≡ e)
      → (HasCleanDisk (state g new.conn.now) → N (state g old.conn.now) (state g new.conn.now) r)
      → StaysInside g Cause N old new r
  stays_err {e = e} {r = r} run is means = record {
    same_reference = run.same_reference;
    does = means;
    inside = λ clean inside. none r e _ is;
    kept = run.kept;
    reason = λ clean. passed r e (Cause (state g old.conn.now) (state g new.conn.now)) is (run.reason clean);
    survives = run.survives;
  }
