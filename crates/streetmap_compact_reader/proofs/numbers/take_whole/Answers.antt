use Rattle.std.proofs.Common.{ap, sym, ◌∙◌, ◌++◌, decimal, arith, rules}
use Rattle.streetmap_compact_reader.proofs.Digits.{first_digit, more_digits}
use Rattle.streetmap_compact_reader.proofs.numbers.take_whole.Goals as goal

pub loop-digit-init : goal.loop-digit-init
loop-digit-init c = record {
  utf8 = search rules;
  text = c.in_ok-first.ensures.text ∙ sym (first_digit c.in_ok-first.first c.in_ok-first.after.now c.in_ok-first.ensures.bound);
  bound = omega (arith, c.in_ok-first.ensures.bound);
}

pub loop-digit-preserved : goal.loop-digit-preserved
loop-digit-preserved c =
    let l = c.loop-digit in
    let step = c.in-Some in
    record {
      utf8 = search rules;
      text = l.invariant.text ∙ ap (λ t. decimal l.number ++ t) step.ensures.text ∙ sym (more_digits l.number step.digit step.following.now (omega arith)
          (omega arith) step.ensures.bound);
      bound = omega (arith, step.ensures.bound);
    }
