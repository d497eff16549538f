use Rattle.std.proofs.Common.{IsTrue, sym}
use Rattle.streetmap_query.specs.Views.{query_value}
use Rattle.streetmap_ledger.specs.Folds.{IsFull}
use Rattle.streetmap_index.proofs.page.count_unread.Goals as goal
use Rattle.streetmap_index.proofs.page.count_unread.Goals.{else-following-via-then-following+else-not-is_full, else-following-via-else-following}

pub returns-clause-counted : goal.returns-clause-counted
returns-clause-counted c = λ t fs f is made held.
    let full : IsTrue c.comes_after-following.result → IsFull c.args.fold.now = λ following. elim c.else-following.branch [
      | else-following-via-then-following+else-not-is_full w ↦ w.is_full.ensures.0 w.if-not-is_full.false
      | else-following-via-else-following w ↦ cc (following, w.if-following.false)
    ] in
    c.count_hidden.ensures (query_value c.args.query.now) fs f held (c.is_selected.ensures c.if-not-is_selected.false f is made)
    (sym (c.comes_after-following.ensures f is)) full
