use Rattle.std.proofs.Common.{◌*◌, ◌+◌, ◌/◌, ◌<◌, ◌≤◌, ℕ, subst, arith}
use Rattle.streetmap_decimal.proofs.Powers.{pow_fits, pow_some, pow_rises, floor_of, whole_ceiling, rest_ceiling}
use Rattle.streetmap_decimal.proofs.arithmetic.sides.Goals as goal

pub returns-then-number-eq0-clause-lower : goal.returns-then-number-eq0-clause-lower
returns-then-number-eq0-clause-lower c = (omega arith, omega (arith, pow_some c.args.power))

pub returns-then-number-eq0-clause-upper : goal.returns-then-number-eq0-clause-upper
returns-then-number-eq0-clause-upper c = (omega arith, omega (arith, pow_some c.args.power))

pub returns-then-power-ge38-clause-lower : goal.returns-then-power-ge38-clause-lower
returns-then-power-ge38-clause-lower c =
    (omega arith, omega (arith, pow_rises 38 c.args.power (omega arith)))

pub returns-then-power-ge38-clause-upper : goal.returns-then-power-ge38-clause-upper
returns-then-power-ge38-clause-upper c =
    (omega (arith, pow_rises 38 c.args.power (omega arith)), omega arith)

pub pow-divisor-requires : goal.pow-divisor-requires
pow-divisor-requires c = omega (arith, pow_fits c.args.power (omega arith))

pub nonzero_div-lower : goal.nonzero_div-lower
nonzero_div-lower c = omega (arith, pow_some c.args.power)

pub nonzero_rem-rest : goal.nonzero_rem-rest
nonzero_rem-rest c = omega (arith, pow_some c.args.power)

pub returns-then-rest-eq0-clause-lower : goal.returns-then-rest-eq0-clause-lower
returns-then-rest-eq0-clause-lower c =
    let n = c.args.number in
    let d = c.pow-divisor.result in
    let some : 1 ≤ d = omega (arith, pow_some c.args.power) in
    subst (λ (p : ℕ). (n / d * p ≤ n) × (n < (n / d + 1) * p)) c.pow-divisor.ensures
    (floor_of n d some)

pub returns-then-rest-eq0-clause-upper : goal.returns-then-rest-eq0-clause-upper
returns-then-rest-eq0-clause-upper c =
    let n = c.args.number in
    let d = c.pow-divisor.result in
    let some : 1 ≤ d = omega (arith, pow_some c.args.power) in
    subst (λ (p : ℕ). (n ≤ n / d * p) × (n / d * p < n + p)) c.pow-divisor.ensures
    (whole_ceiling n d some c.if-rest-eq0.true)

pub returns-else-rest-eq0-clause-lower : goal.returns-else-rest-eq0-clause-lower
returns-else-rest-eq0-clause-lower c =
    let n = c.args.number in
    let d = c.pow-divisor.result in
    let some : 1 ≤ d = omega (arith, pow_some c.args.power) in
    subst (λ (p : ℕ). (n / d * p ≤ n) × (n < (n / d + 1) * p)) c.pow-divisor.ensures
    (floor_of n d some)

pub returns-else-rest-eq0-clause-upper : goal.returns-else-rest-eq0-clause-upper
returns-else-rest-eq0-clause-upper c =
    let n = c.args.number in
    let d = c.pow-divisor.result in
    let some : 1 ≤ d = omega (arith, pow_some c.args.power) in
    subst (λ (p : ℕ). (n ≤ (n / d + 1) * p) × ((n / d + 1) * p < n + p)) c.pow-divisor.ensures
    (rest_ceiling n d some c.if-rest-eq0.false)
