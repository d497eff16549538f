use Rattle.std.proofs.Common.{◌≡◌, IsTrue, true, false, ap, sym, ◌∙◌}
use Rattle.streetmap_query.specs.QueryValue.{QueryValue}
use Rattle.streetmap_ledger.specs.Folds.{IsFull}
use Rattle.streetmap_ledger.specs.Pages.{selects, comes_after}
use Rattle.streetmap_ledger.proofs.fold.PageFold.pass_candidate.Goals as goal
use Rattle.streetmap_ledger.proofs.fold.PageFold.pass_candidate.Goals.{then-not-following, else-not-following}

pub returns-in-Some-clause-passed : goal.returns-in-Some-clause-passed
returns-in-Some-clause-passed c = λ _ q fs held.
    let f = c.args.feature.now in
    let full : IsTrue c.in-Some.following → IsFull c.args.self.now = λ following. elim c.if-not-following.branch [
      | then-not-following w ↦ cc (following, w.if-not-following.true)
      | else-not-following w ↦ w.is_full.ensures.0 (cc (w.value-is))
    ] in
    let known = sym c.in-Some-true.ensures ∙ c.in-Some-true.field-0-test in
    c.count_hidden.ensures q fs f held (ap (λ (v : QueryValue). selects v f) (sym held.is_for) ∙ known)
    (ap (λ (v : QueryValue). comes_after v.after f) (sym held.is_for) ∙ sym c.in-Some.ensures) full

pub returns-in-Some-false-clause-passed : goal.returns-in-Some-false-clause-passed
returns-in-Some-false-clause-passed c = λ _ q fs held.
    let f = c.args.feature.now in
    let known = sym c.in-Some-false.ensures ∙ c.in-Some-false.field-0-test in
    c.skip_unselected.ensures q fs f held (ap (λ (v : QueryValue). selects v f) (sym held.is_for) ∙ known)
