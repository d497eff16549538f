use Rattle.std.proofs.Common.{◌≡◌, ◌≤◌, ◌∙◌, sym, ap, arith, add-zero, Some, None}
use Rattle.std.proofs.Math.Nat.{mul-le-mul_left}
use Rattle.streetmap_moment.specs.DateTimeParts.{digits_at}
use Rattle.streetmap_moment.proofs.DigitFacts.{with_front, digit_shorter, digits_end, digits_full, digits_step}
use Rattle.streetmap_moment.proofs.fields.nanoseconds.Goals as goal

pub returns-then-unit-eq0-clause-value : goal.returns-then-unit-eq0-clause-value
returns-then-unit-eq0-clause-value c =
    let stop = digits_full _ _ _ (sym c.in-Some.ensures.value) in
    let none : digits_at c.loop-number.unit c.loop-number.rest.now ≡ None = ap (λ p. digits_at p c.loop-number.rest.now) c.if-unit-eq0.true ∙ stop in
    sym (ap (with_front c.loop-number.total) none) ∙ c.loop-number.invariant.value

pub loop-number-smaller : goal.loop-number-smaller
loop-number-smaller c = digit_shorter _ _ _ (sym c.in-Some.ensures.value)

pub loop-number-preserved : goal.loop-number-preserved
loop-number-preserved c =
    let l = c.loop-number in
    let n = c.in-Some.number in
    let few : n ≤ 9 = omega (arith, c.in-Some.ensures.bound) in
    record {
      value = digits_step l.total l.unit _ n _ (sym c.in-Some.ensures.value) (omega arith) ∙ l.invariant.value;
      bound = omega (arith, mul-le-mul_left l.unit few);
    }

pub returns-clause-value : goal.returns-clause-value
returns-clause-value c =
    let l = c.loop-number in
    let end = digits_end l.unit _ (sym c.in_default.ensures.value) in
    sym (ap (λ k. Some (k, l.rest.now)) (add-zero l.total)) ∙ (sym (ap (with_front l.total) end) ∙ l.invariant.value)
