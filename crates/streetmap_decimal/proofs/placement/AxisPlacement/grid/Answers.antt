use Rattle.std.proofs.Common.{rules, subst, sym, ℤ, ◌≤◌, ◌^◌, FitsSigned}
use Rattle.std.specs.Prelude.{unsigned_abs}
use Rattle.std.specs.Int.{w128}
use Rattle.std.proofs.lemmas.Int.{to_z-of_z}
use Rattle.streetmap_decimal.specs.declared.rounding.Rounding.{Rounding}
use Rattle.streetmap_decimal.specs.Decimal.{Encloses}
use Rattle.streetmap_decimal.specs.Grid.{Agrees, Places, placed}
use Rattle.streetmap_decimal.proofs.Enclosing.{far_bound}
use Rattle.streetmap_decimal.proofs.Steps.{then_next}
use Rattle.streetmap_decimal.proofs.placement.AxisPlacement.grid.Goals as goal

pub agreed-requires-clause-far : goal.agreed-requires-clause-far
agreed-requires-clause-far c =
    let k = c.in_ok-near-in-Nearest in
    let d = c.args.coordinate.now in
    let f : FitsSigned w128 k.far = search rules in
    subst (λ (z : ℤ). unsigned_abs z ≤ 10 ^ 37) (sym (to_z-of_z w128 k.far f))
    (far_bound 18 d.mantissa d.exponent (k.near, k.far) k.ensures)

pub returns-in_ok-near-in-Nearest : goal.returns-in_ok-near-in-Nearest
returns-in_ok-near-in-Nearest c =
    let p = c.args.self.now in
    let d = c.args.coordinate.now in
    let k = c.in_ok-near-in-Nearest in
    let r = c.agreed.result in
    let f : FitsSigned w128 k.near = search rules in
    let g : FitsSigned w128 k.far = search rules in
    let near = to_z-of_z w128 k.near f in
    let far = to_z-of_z w128 k.far g in
    let h = rw (near, far) at c.agreed.ensures in
    subst (λ (rounding : Rounding). Places p.shift p.scale rounding d.mantissa d.exponent r)
    (sym c.in-Nearest.is)
    (then_next (Encloses 18 d.mantissa d.exponent)
    (λ s. Agrees (placed p.shift p.scale s.0) (placed p.shift p.scale s.1)) (k.near, k.far) r
    k.ensures h)
