use Rattle.std.proofs.Common.{◌<◌, ◌≤◌, ◌+◌, ◌*◌, ◌^◌, ℕ, ap, subst, ◌∙◌}
use Rattle.std.specs.Prelude.{unsigned_abs}
use Rattle.std.specs.Int.{w128}
use Rattle.std.proofs.lemmas.Int.{to_z-of_z}
use Rattle.streetmap_decimal.proofs.Enclosing.{large_up, large_down}
use Rattle.streetmap_decimal.proofs.decimal.Decimal.sides.Goals as goal

pub returns-in-None : goal.returns-in-None
returns-in-None c =
    let e = to_z-of_z w128 c.args.power c.ranges.power in
    large_up c.args.number c.args.power (rw e at c.if-power-ge0.true)
    (rw e at c.in-None.ensures.none)

pub returns-else-lower-lt-COUNT_LIMIT : goal.returns-else-lower-lt-COUNT_LIMIT
returns-else-lower-lt-COUNT_LIMIT c =
    let e = to_z-of_z w128 c.args.power c.ranges.power in
    let n = c.args.number in
    let u = c.sides-lower.result.0 in
    let low = subst (λ (k : ℕ). (u * 10 ^ k ≤ n) × (n < (u + 1) * 10 ^ k))
    (c.unsigned_abs.ensures.value ∙ ap unsigned_abs e) c.sides-lower.ensures.lower in
    large_down n c.args.power u (rw e at c.if-power-ge0.false) low c.if-lower-lt-COUNT_LIMIT.false
