use Rattle.std.proofs.Common.{arith, ap, FitsSigned, w64, List}
use Rattle.std.proofs.lemmas.Int.{ints, to_z-of_z}
use Rattle.std.proofs.lemmas.List.Sums.{sum_by_more}
use Rattle.streetmap_grid.specs.declared.ring.Ring.{Ring}
use Rattle.streetmap_grid.specs.Values.{PositionValue}
use Rattle.streetmap_grid.specs.Views.{ring_value}
use Rattle.streetmap_grid.specs.Crossings.{crossings}
use Rattle.streetmap_grid.proofs.crossings.holds_corner.Goals as goal

pub loop-ring-preserved : goal.loop-ring-preserved
loop-ring-preserved c =
    let x : FitsSigned w64 c.args.area.now.x0 = omega (arith, ints) in
    let y : FitsSigned w64 c.args.area.now.y0 = omega (arith, ints) in
    let e = simp to_z-of_z at c.turned_over-odd.ensures in
    let r = c.ring-item.result in
    let f = λ (r : Ring). crossings c.args.area.now.x0 c.args.area.now.y0 (ring_value r) in
    let p = ap (λ (ps : List PositionValue). crossings c.args.area.now.x0 c.args.area.now.y0 ps) c.positions.ensures in
    let q = ap f c.ring-item.is in
    let s = sum_by_more f c.args.rings.now c.loop-ring.ring-index r (omega arith) in
    let i = c.loop-ring.invariant in
    omega (arith, e, p, q, s, i)
