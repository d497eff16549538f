use Rattle.std.proofs.Common.{◌≡◌, ◌+◌, ◌-◌, length, drop, sym, ◌∙◌, arith, length-drop}
use Rattle.streetmap_json.proofs.NumberTextPlain.{may_change_last, short_stays}
use Rattle.streetmap_json.proofs.number_text.may_change_at_end.Goals as goal

pub returns-in_default : goal.returns-in_default
returns-in_default c = sym (short_stays (drop (length c.args.text.now - 2) c.args.text.now) (omega (arith, length-drop (length c.args.text.now - 2) c.args.text.now)))

pub returns-in-len2-up : goal.returns-in-len2-up
returns-in-len2-up c =
    let text = c.args.text.now in
    let e : length text - 2 + 1 ≡ length text - 1 = omega arith in
    c.is_changing_zero.ensures ∙ sym (rw e at (may_change_last text (length text - 2) (omega arith)))
