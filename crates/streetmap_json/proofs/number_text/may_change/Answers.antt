use Rattle.std.proofs.Common.{refl, sym, ◌∙◌}
use Rattle.streetmap_json.proofs.NumberTextPlain.{may_change_more, found_more, read_ends}
use Rattle.streetmap_json.proofs.number_text.may_change.Goals as goal

pub loop-i-init : goal.loop-i-init
loop-i-init c = refl

pub loop-i-preserved : goal.loop-i-preserved
loop-i-preserved c =
    let text = c.args.text.now in
    let here = rw c.is_ascii_digit.ensures.value at c.is_changing_zero-found.ensures in
    let more = may_change_more text c.loop-i.i c.loop-i.auto.i c.loop-i-test.true in
    rw here (found_more c.loop-i.found _ _ _ (rw more at c.loop-i.invariant))

pub returns-then-found : goal.returns-then-found
returns-then-found c = c.if-found.true ∙ (rw c.if-found.true at c.loop-i.invariant)

pub returns-else-found : goal.returns-else-found
returns-else-found c =
    let ends = read_ends c.args.text.now c.loop-i.i c.loop-i.auto.i c.loop-i-test.false c.loop-i.auto.i-end in
    c.may_change_at_end.ensures ∙ sym ends ∙ (rw c.if-found.false at c.loop-i.invariant)
