use Rattle.std.proofs.Common.{sym, ◌∙◌}
use Rattle.streetmap_query.specs.Views.{query_value}
use Rattle.streetmap_ledger.specs.Pages.{candidates}
use Rattle.streetmap_ledger.proofs.Examining.{left_out, taken}
use Rattle.streetmap_index.proofs.page.take_unread.Goals as goal

pub returns-then-not-is_candidate-clause-taken : goal.returns-then-not-is_candidate-clause-taken
returns-then-not-is_candidate-clause-taken c = λ _ fs f is made held. left_out c.args.query.now c.args.fold.now fs f made
    (sym (c.is_candidate.ensures f is) ∙ c.if-not-is_candidate.true) held

pub returns-else-not-is_candidate-clause-taken : goal.returns-else-not-is_candidate-clause-taken
returns-else-not-is_candidate-clause-taken c = λ t fs f is made held.
    let q = query_value c.args.query.now in
    taken q c.count_unread.new.fold fs f (sym (c.is_candidate.ensures f is) ∙ c.if-not-is_candidate.false) held.whole
    (c.count_unread.ensures.counted t (candidates q fs) f is made held.holds)
