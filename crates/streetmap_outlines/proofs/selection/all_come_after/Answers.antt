use Rattle.std.proofs.Common.{◌≡◌, false, sym, subst, ◌∙◌}
use Rattle.streetmap_query.specs.Views.{query_value}
use Rattle.streetmap_outlines.specs.Chunks.{reaches, BeginsAfter}
use Rattle.streetmap_outlines.proofs.Ordered.{none_comes_after, all_come_after, all_come_after_none}
use Rattle.streetmap_outlines.proofs.selection.all_come_after.Goals as goal

pub returns-in-None : goal.returns-in-None
returns-in-None c = λ order. all_come_after_none (query_value c.args.query.now) c.in-None.is c.args.chunk.now.outlines.items

pub returns-then-not-reaches : goal.returns-then-not-reaches
returns-then-not-reaches c = λ order.
    let os = c.args.chunk.now.outlines.items in
    let short : reaches c.as_str.result.now os ≡ false = sym c.reaches.ensures ∙ c.if-not-reaches.true in
    none_comes_after (query_value c.args.query.now) c.in-Some.id c.in-Some.is os order (subst (λ k. reaches k os ≡ false) c.as_str.ensures.value short)

pub returns-then-begins_after : goal.returns-then-begins_after
returns-then-begins_after c = λ order.
    let os = c.args.chunk.now.outlines.items in
    all_come_after (query_value c.args.query.now) c.in-Some.id c.in-Some.is os order (subst (λ k. BeginsAfter k os) c.as_str-in-Some.ensures.value
    (c.begins_after.ensures c.if-begins_after.true))
