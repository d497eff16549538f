use Rattle.std.proofs.Common.{◌≡◌, length, subst, sym, ◌∙◌, rules}
use Rattle.streetmap_query.specs.Views.{query_value}
use Rattle.streetmap_outlines.specs.Selections.{CountsWhole}
use Rattle.streetmap_outlines.proofs.Counting.{counts_whole, counts_all, counts_extents}
use Rattle.streetmap_outlines.proofs.selection.count_by_bounds.Goals as goal

pub returns-in-None : goal.returns-in-None
returns-in-None c = λ bounded.
    let q = c.args.query.now in
    let chunk = c.args.chunk.now in
    let whole = counts_whole q chunk bounded (c.lies_whole_within_box.ensures c.if-not-lies_whole_within_box.false)
    (c.reaches_into_interval.ensures c.if-not-reaches_into_interval.false) in
    let len : c.len.result ≡ length chunk.outlines.items = search rules in
    subst (CountsWhole (query_value q) chunk) (counts_all q c.in-None.is chunk.outlines.items ∙ sym len) whole

pub returns-in-Some : goal.returns-in-Some
returns-in-Some c = λ bounded.
    let q = c.args.query.now in
    let chunk = c.args.chunk.now in
    let whole = counts_whole q chunk bounded (c.lies_whole_within_box.ensures c.if-not-lies_whole_within_box.false)
    (c.reaches_into_interval.ensures c.if-not-reaches_into_interval.false) in
    subst (CountsWhole (query_value q) chunk) (counts_extents q _ c.in-Some.is chunk.outlines.items ∙ sym bounded.counted) whole
