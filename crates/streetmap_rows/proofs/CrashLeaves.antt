-- What a crash may leave of a database of a state.
use Rattle.std.proofs.Common.{◌≡◌, inl, inr, Some, sym, ap, subst, ◌∙◌}
use Rattle.sqlite.specs.Effect.{Database}
use Rattle.sqlite.specs.State.{State as Seen}
use Rattle.sqlite_trees.specs.Tree.{Trees}
use Rattle.streetmap_batch.specs.BatchValue.{BatchValue}
use Rattle.streetmap_ledger.specs.State.{State}
use Rattle.streetmap_ledger.specs.Batches.{act}
use Rattle.streetmap_ledger.specs.Keep.{LeavesOnly, LeavesEither}
use Rattle.streetmap_rows.specs.KeptStates.{Rests, AreTreesOf, MayLeave, MayBecome}
use Rattle.streetmap_rows.proofs.OneState.{trees_of_one}

-- an open connection leaves its last commit
pub leaves_only : (seen : Seen) (s : State) → Rests seen s → ((trees : Trees) → seen.may_leave trees → trees ≡ seen.committed.trees) →
    LeavesOnly (MayLeave seen) (Some s)
leaves_only seen s rests last o left =
    let at : left.0 ≡ seen.now.trees = last left.0 left.1 ∙ ap (λ (d : Database). d.trees) (sym rests.settled) in
    trees_of_one s seen.now.schema seen.now.trees rests.kept o (subst (λ trees. AreTreesOf trees o) at left.2)

-- what may be left was left before, or was committed
pub leaves_either : (s : State) (b : BatchValue) (old new : Seen) → LeavesOnly (MayLeave old) (Some s) → MayBecome s b old new →
    LeavesEither (MayLeave new) (Some s) (Some (act s b).state)
leaves_either s b old new only becomes o left = elim (becomes left.0 left.1) [
  | inl was ↦ inl (only o (left.0, was, left.2))
  | inr did ↦ inr (trees_of_one (act s b).state did.0.schema did.0.trees did.1 o (subst (λ trees. AreTreesOf trees o) did.2 left.2))
]
