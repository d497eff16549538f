-- What a statement that was run inside a transaction leaves, whatever it is.
use Rattle.std.proofs.Common.{◌≡◌, ℕ, List, false, Result, Ok, Err, IsTrue, IsErrAnd}
use Rattle.sqlite.specs.declared.error.Error.{Error}
use Rattle.sqlite.specs.declared.error.Error.TheVariants.{SqliteFailure}
use Rattle.sqlite.specs.declared.error.ErrorCode.TheVariants.{TransactionState}
use Rattle.sqlite.specs.declared.transaction.Transaction.{Transaction}
use Rattle.sqlite.specs.Held.{state}
use Rattle.sqlite.specs.Order.{Row}
use Rattle.sqlite.specs.Store.{Ghosts}
use Rattle.sqlite.specs.State.{State as Seen, HasCleanDisk, Survives, ExecutesInside}
use Rattle.sqlite.proofs.InsideLemmas.{inside_keeps}
use Rattle.streetmap_rows.specs.Failures.{HasReason}
use Rattle.streetmap_rows.specs.TransactionCalls.{StaysInside}
use Rattle.streetmap_rows.proofs.ErrorReasons.{run_inside}
use Rattle.streetmap_rows.proofs.ResultCases.{err_handed_on}
use Rattle.streetmap_rows.proofs.CallsInside.{none as no_success}

module _ {S : Type 0} {g : Ghosts S} {old new : Transaction S} (sql : List ℕ) (params : Row)
    (same : new.conn.ghost_name ≡ old.conn.ghost_name)
    (survives : Survives (state g old.conn.now) (state g new.conn.now) (λ _. ⊥)) where
  pub ran_inside : {A : Type 0} {Means : Seen → Seen → Result A Error → Type 0} {x : A} (count : ℕ)
      → (HasCleanDisk (state g new.conn.now) → IsTrue (state g old.conn.now).in_transaction
      → ExecutesInside 0 sql params (state g old.conn.now) (state g new.conn.now) (Ok count))
      → (HasCleanDisk (state g new.conn.now)
      → Means (state g old.conn.now) (state g new.conn.now) (Ok x))
      → StaysInside g HasReason Means old new (Ok x)
  ran_inside count runs means = record {
    same_reference = same;
    does = means;
    inside = λ clean inside. (runs clean inside).1.mode;
    kept = λ clean inside. inside_keeps (state g old.conn.now) (state g new.conn.now) 0 false sql params (Ok count) (runs clean inside);
    reason = λ clean. tt;
    survives = survives;
  }

  -- its error is passed on
  pub failed_inside : {A Same : Type 0} {Means : Seen → Seen → Result A Error → Type 0} {e : Error}
      {r : Result A Error}
      → ((state g old.conn.now).in_transaction ≡ false
      → (◌≡◌ {A = Result ℕ Error} (Err e) (Err (SqliteFailure TransactionState))) × Same)
      → (HasCleanDisk (state g new.conn.now) → IsTrue (state g old.conn.now).in_transaction
      → ExecutesInside 0 sql params (state g old.conn.now) (state g new.conn.now) (Err e))
      → IsErrAnd r (λ x. x ≡ e)
      → (HasCleanDisk (state g new.conn.now) → Means (state g old.conn.now) (state g new.conn.now) r)
      → StaysInside g HasReason Means old new r
  failed_inside {e = e} {r = r} ended runs is means =
      let a = state g old.conn.now in
      let b = state g new.conn.now in
      record {
        same_reference = same;
        does = means;
        inside = λ clean inside. no_success r e _ is;
        kept = λ clean inside. inside_keeps a b 0 false sql params (Err e) (runs clean inside);
        reason = λ clean. err_handed_on r e _ is (run_inside a b sql params e ended (runs clean));
        survives = survives;
      }
