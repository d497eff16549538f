-- What a query in a transaction keeps, whatever it is.
use Rattle.std.proofs.Common.{◌≡◌, ℕ, List, ◌⊎◌, inl, inr, Option, Some, None, sym, subst, IsTrue}
use Rattle.std.proofs.Common.{Result, Vec, IfOk, IfErr}
use Rattle.std.specs.declared.alloc.Global.{Global}
use Rattle.sqlite.specs.declared.error.Error.{Error}
use Rattle.sqlite.specs.declared.transaction.Transaction.{Transaction}
use Rattle.sqlite.specs.Held.{state}
use Rattle.sqlite.specs.Order.{Row}
use Rattle.sqlite.specs.Store.{Ghosts}
use Rattle.sqlite.specs.Clock.{timed}
use Rattle.sqlite.specs.State.{State as Seen, HasCleanDisk, KeepsCommit, Survives, Shown, ShowsRows}
use Rattle.sqlite.specs.State.{FailsToQuery, FailsToShow, IsNotRun, IsTooLate}
use Rattle.sqlite.proofs.InsideLemmas.{unchanged_keeps}
use Rattle.sqlite_schema.specs.declared.command.Returning.{Returning}
use Rattle.streetmap_rows.specs.Failures.{HasReason}
use Rattle.streetmap_rows.specs.TransactionCalls.{StaysInside}
use Rattle.streetmap_rows.proofs.ErrorReasons.{if_queried_inside}
use Rattle.streetmap_rows.proofs.ResultCases.{by_either, on_ok}

module _ (sql : List ℕ) (params : Row) (old new : Seen) (inside : IsTrue old.in_transaction) where
  pub keeps_shown : (rows : List Row) → Shown sql params old new rows → KeepsCommit old new
  unfolding Shown
  keeps_shown rows h = go h.0.returning h.2
    where
      go : (o : Option Returning) → ShowsRows old new sql h.0 (timed params h.0.formats h.1.now) rows o → KeepsCommit old new
      go None it = unchanged_keeps old new (inl it.3)
      go (Some what) it = record { was_open = λ _. it.1.shown.was_open; committed = λ _. rw inside at it.1.shown.committed_is }

  pub inside_shown : (rows : List Row) → Shown sql params old new rows → IsTrue new.in_transaction
  unfolding Shown
  inside_shown rows h = go h.0.returning h.2
    where
      go : (o : Option Returning) → ShowsRows old new sql h.0 (timed params h.0.formats h.1.now) rows o → IsTrue new.in_transaction
      go None it = subst IsTrue (sym it.3.0.mode) inside
      go (Some what) it = subst IsTrue (sym it.1.shown.mode) inside

  pub keeps_failed : (e : Error) → FailsToQuery sql params old new e ⊎ IsTooLate sql params old new e → KeepsCommit old new
  unfolding FailsToQuery IsNotRun
  keeps_failed e (inr late) = unchanged_keeps old new (inl late.5)
  keeps_failed e (inl (inl (inl none))) = unchanged_keeps old new (inl none.1)
  keeps_failed e (inl (inl (inr failed))) = unchanged_keeps old new (inr failed.3)
  keeps_failed e (inl (inr h)) = go h.0.returning h.2
    where
      go : (o : Option Returning) → FailsToShow old new sql h.0 (timed params h.0.formats h.1.now) e o → KeepsCommit old new
      go None it = unchanged_keeps old new (inl it.3)
      go (Some what) (inl refused) = unchanged_keeps old new (inl refused.1)
      go (Some what) (inr failed) = unchanged_keeps old new (inr failed.3)

-- what such a query does, whatever is read of its rows
pub query_inside : {S : Type 0} {g : Ghosts S}
    {Means : Seen → Seen → Result (Vec Row Global) Error → Type 0} {old new : Transaction S}
    {r : Result (Vec Row Global) Error} (sql : List ℕ) (params : Row)
    → new.conn.ghost_name ≡ old.conn.ghost_name
    → (HasCleanDisk (state g new.conn.now)
    → IfOk r (λ rows. Shown sql params (state g old.conn.now) (state g new.conn.now) rows.items))
    → (HasCleanDisk (state g new.conn.now)
    → IfErr r (λ e. FailsToQuery sql params (state g old.conn.now) (state g new.conn.now) e
    ⊎ IsTooLate sql params (state g old.conn.now) (state g new.conn.now) e))
    → Survives (state g old.conn.now) (state g new.conn.now) (λ _. ⊥)
    → (HasCleanDisk (state g new.conn.now) → Means (state g old.conn.now) (state g new.conn.now) r)
    → StaysInside g HasReason Means old new r
query_inside {g = g} {old = old} {new = new} {r = r} sql params same ok err survives means =
    let a = state g old.conn.now in
    let b = state g new.conn.now in
    record {
      same_reference = same;
      does = means;
      inside = λ clean inside. on_ok r _ _ (ok clean) (λ rows shown. inside_shown sql params a b inside rows.items shown);
      kept = λ clean inside. by_either r _ _ _ (ok clean) (err clean) (λ rows shown. keeps_shown sql params a b inside rows.items shown)
          (λ e failed. keeps_failed sql params a b inside e failed);
      reason = λ clean. if_queried_inside a b sql params r (err clean);
      survives = survives;
    }
