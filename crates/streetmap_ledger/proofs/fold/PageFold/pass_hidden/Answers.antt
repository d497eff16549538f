use Rattle.std.proofs.Common.{◌≡◌, IsTrue, ap, sym, ◌∙◌}
use Rattle.streetmap_query.specs.QueryValue.{QueryValue}
use Rattle.streetmap_ledger.specs.Folds.{IsFull}
use Rattle.streetmap_ledger.specs.Pages.{selects, comes_after}
use Rattle.streetmap_ledger.proofs.fold.PageFold.pass_hidden.Goals as goal
use Rattle.streetmap_ledger.proofs.fold.PageFold.pass_hidden.Goals.{else-following-via-then-following+else-not-is_full, else-following-via-else-following}

pub returns-then-not-branch-clause-passed : goal.returns-then-not-branch-clause-passed
returns-then-not-branch-clause-passed c = λ _ q fs held.
    c.skip_unselected.ensures q fs c.args.feature.now held (ap (λ (v : QueryValue). selects v c.args.feature.now) (sym held.is_for)
    ∙ (sym c.in_ok-selects.ensures ∙ c.if-not-branch.true))

pub returns-clause-passed : goal.returns-clause-passed
returns-clause-passed c = λ _ q fs held.
    let full : IsTrue c.in_ok-following.following → IsFull c.args.self.now = λ following. elim c.else-following.branch [
      | else-following-via-then-following+else-not-is_full w ↦ w.is_full.ensures.0 w.if-not-is_full.false
      | else-following-via-else-following w ↦ cc (following, w.if-following.false)
    ] in
    c.count_hidden.ensures q fs c.args.feature.now held (ap (λ (v : QueryValue). selects v c.args.feature.now) (sym held.is_for)
    ∙ (sym c.in_ok-selects.ensures ∙ c.if-not-branch.false))
    (ap (λ (v : QueryValue). comes_after v.after c.args.feature.now) (sym held.is_for) ∙ sym c.in_ok-following.ensures) full
