use Rattle.std.proofs.Common.{rules, subst, ap, ◌∙◌, ◌≤◌, ◌^◌, ℤ, FitsSigned}
use Rattle.std.specs.Prelude.{unsigned_abs}
use Rattle.std.specs.Int.{w128}
use Rattle.std.proofs.lemmas.Int.{to_z-of_z}
use Rattle.streetmap_decimal.specs.Grid.{IsExactCoordinate, placed}
use Rattle.streetmap_decimal.proofs.NearestFacts.{beyond}
use Rattle.streetmap_decimal.proofs.placement.AxisPlacement.exact_coordinate.Goals as goal

pub returns-in-Some : goal.returns-in-Some
returns-in-Some c =
    let p = c.args.self.now in
    let z = c.in-Some.placed in
    let f : FitsSigned w128 z = search rules in
    let count = to_z-of_z w128 c.args.count c.ranges.count in
    let is = to_z-of_z w128 z f ∙ c.in-Some.ensures.some ∙ ap (placed p.shift p.scale) count in
    subst (λ (z : ℤ). IsExactCoordinate z c.whole_number.result) is c.whole_number.ensures

pub returns-in-None : goal.returns-in-None
returns-in-None c =
    let p = c.args.self.now in
    let count = to_z-of_z w128 c.args.count c.ranges.count in
    beyond (placed p.shift p.scale c.args.count)
    (subst (λ (n : ℤ). 2 ^ 127 ≤ unsigned_abs (placed p.shift p.scale n)) count
    c.in-None.ensures.none)
