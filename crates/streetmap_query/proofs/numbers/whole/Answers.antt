use Rattle.std.proofs.Common.{◌≡◌, ◌-◌, ◌+◌, ◌∙◌, sym, ap, arith, None}
use Rattle.streetmap_query.specs.Number.{digits_at}
use Rattle.streetmap_query.proofs.NumberFacts.{digit_shorter, digits_end, digits_full, digits_step, longer, fits}
use Rattle.streetmap_query.proofs.numbers.whole.Goals as goal

pub returns-then-places-eq19 : goal.returns-then-places-eq19
returns-then-places-eq19 c =
    let l = c.loop-next in
    let none : digits_at (19 - l.places) l.number l.rest.now ≡ None = ap (λ p. digits_at (19 - p) l.number l.rest.now) c.if-places-eq19.true ∙ digits_full l.number _ _ _ (sym c.in-Some.ensures.value) in
    sym none ∙ l.invariant.value

pub overflow_mul-number : goal.overflow_mul-number
overflow_mul-number c = omega (arith, fits c.loop-next.number c.loop-next.places c.loop-next.invariant.bound)

pub overflow_add-number : goal.overflow_add-number
overflow_add-number c = omega (arith, fits c.loop-next.number c.loop-next.places c.loop-next.invariant.bound, c.in-Some.ensures.bound)

pub loop-next-smaller : goal.loop-next-smaller
loop-next-smaller c = digit_shorter _ _ _ (sym c.in-Some.ensures.value)

pub loop-next-preserved : goal.loop-next-preserved
loop-next-preserved c =
    let l = c.loop-next in
    record {
      value = digits_step (19 - l.places) (19 - (l.places + 1)) l.number _ _ _ (sym c.in-Some.ensures.value) (omega arith) ∙ l.invariant.value;
      bound = longer l.number c.in-Some.next l.places l.invariant.bound (omega (arith, c.in-Some.ensures.bound));
      from = omega arith;
      to = omega arith;
    }

pub returns : goal.returns
returns c =
    let l = c.loop-next in
    sym (digits_end (19 - l.places) l.number _ (sym c.in_default.ensures.value)) ∙ l.invariant.value
