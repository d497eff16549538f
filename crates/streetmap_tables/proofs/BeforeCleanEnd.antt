-- What holds before a call whose end is clean, and what a crash may leave of an open connection.
use Rattle.std.proofs.Common.{◌≡◌, inl, inr, Some, Ok, Err, Result, OnOk, IfErr, IsErrAnd, IsTrue, sym, ap, subst, ◌∙◌, arith}
use Rattle.sqlite.specs.State.{State as Seen, HasCleanDisk, Survives, KeepsCommit}
use Rattle.sqlite.specs.Effect.{Database}
use Rattle.sqlite.specs.Steps.{FailsToCommit}
use Rattle.sqlite.specs.declared.error.Error.{Error}
use Rattle.streetmap_tables.specs.Creation.{HasSame}
use Rattle.sqlite_trees.specs.Tree.{Trees}
use Rattle.streetmap_ledger.specs.State.{State}
use Rattle.streetmap_rows.specs.KeptStates.{Rests, MayLeave}

pub clean_back : (old new : Seen) (Commits : Trees → Type 0) → Survives old new Commits → HasCleanDisk new → HasCleanDisk old
clean_back old new Commits survives clean = omega (arith, survives.clean, clean)

-- the last commit of an open connection that rests at a state may be left
pub may_leave_it : (seen : Seen) (s : State) → Rests seen s → seen.may_leave seen.committed.trees → MayLeave seen (Some s)
may_leave_it seen s rests left = (seen.now.trees, subst (λ (d : Database). seen.may_leave d.trees) (sym rests.settled) left, (seen.now.schema, rests.kept))

-- of two open connections with one last commit, a crash may leave the same
pub leaves_same : (old new : Seen) → new.committed ≡ old.committed → ((trees : Trees) → new.may_leave trees → trees ≡ new.committed.trees) →
    old.may_leave old.committed.trees → (trees : Trees) → new.may_leave trees → old.may_leave trees
leaves_same old new same only left trees may = subst old.may_leave (sym (only trees may ∙ ap (λ (d : Database). d.trees) same)) left

pub ok_then : {A E : Type 0} (P Q : Type 0) (r : Result A E) → OnOk r P → (P → Q) → OnOk r Q
ok_then P Q (Ok x) p turn = turn p
ok_then P Q (Err e) p turn = tt

pub err_then : {A E : Type 0} (P Q : E → Type 0) (r : Result A E) → IfErr r P → ((e : E) → P e → Q e) → IfErr r Q
err_then P Q (Ok x) p turn = tt
err_then P Q (Err e) p turn = turn e p

-- a commit that failed leaves an open connection with the database that it had before its transaction
pub same_after_commit : (old begun mid new : Seen) (e : Error) → begun.committed ≡ old.committed → KeepsCommit begun mid → IsTrue mid.in_transaction →
    FailsToCommit mid new e → old.now ≡ old.committed → IsTrue new.is_open → HasSame old new
same_after_commit old begun mid new e same kept inside (inl failed) settled live =
    let was = kept.committed (failed.3.was_open live) ∙ same in
    ((failed.3.undone live).0 ∙ was ∙ sym settled, (failed.3.undone live).1 ∙ was)
same_after_commit old begun mid new e same kept inside (inr late) settled live = absurd (let e = rw late.1 at inside in cc)

-- so does one that keeps its last commit, between two transactions
pub same_if_settled : (old mid new : Seen) → (IsTrue mid.is_open → HasSame old mid) → KeepsCommit mid new → (IsTrue new.is_open → new.now ≡ new.committed) →
    old.now ≡ old.committed → IsTrue new.is_open → HasSame old new
same_if_settled old mid new before kept settled was live =
    let last = kept.committed live ∙ (before (kept.was_open live)).1 in
    (settled live ∙ last ∙ sym was, last)

-- what a `?` hands on is its error
pub is_handed : {A E : Type 0} (r : Result A E) (e : E) → IsErrAnd r (λ x. x ≡ e) → r ≡ Err e
is_handed (Ok a) e h = absurd h
is_handed (Err x) e h = ap (λ y. Err y) h
