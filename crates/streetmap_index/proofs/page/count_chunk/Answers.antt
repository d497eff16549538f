use Rattle.streetmap_query.specs.Views.{query_value}
use Rattle.streetmap_outlines.proofs.Counting.{takes_chunk}
use Rattle.streetmap_index.proofs.page.count_chunk.Goals as goal

pub returns-in-Some-count_selected-clause-counted : goal.returns-in-Some-count_selected-clause-counted
returns-in-Some-count_selected-clause-counted c = λ t bounded order.
    let q = c.args.query.now in
    let counted = c.in-Some-count_selected.ensures bounded in
    let after = c.in-Some.ensures order in
    takes_chunk q c.args.fold.now c.count_all_hidden.new.self c.args.chunk.now c.in-Some-count_selected.count c.in-Some.following counted after
    (λ fs gs held hidden len. c.count_all_hidden.ensures (query_value q) fs gs held hidden len (c.hides.ensures c.if-not-hides.false))
