use Rattle.std.proofs.Common.{◌-ℤ◌, FitsSigned, arith, w64, rules}
use Rattle.std.proofs.lemmas.Int.{ints, to_z-of_z}
use Rattle.streetmap_grid.proofs.area.edge_area.Goals as goal

pub overflow_sub-result : goal.overflow_sub-result
overflow_sub-result c = omega (arith, ints)

pub returns : goal.returns
returns c =
    let f0 : FitsSigned w64 c.args.a.now.x = omega (arith, ints) in
    let f1 : FitsSigned w64 c.args.a.now.y = omega (arith, ints) in
    let f2 : FitsSigned w64 c.args.b.now.x = omega (arith, ints) in
    let f3 : FitsSigned w64 c.args.b.now.y = omega (arith, ints) in
    let g1 : FitsSigned w64 c.product-forth.result = search rules in
    let g2 : FitsSigned w64 c.product-back.result = search rules in
    let g3 : FitsSigned w64 (c.product-forth.result -ℤ c.product-back.result) = omega (arith, ints) in
    let e1 = simp to_z-of_z at c.product-forth.ensures.value in
    let e2 = simp to_z-of_z at c.product-back.ensures.value in
    simp to_z-of_z (record { value = omega (arith, ints); low = omega (arith, ints); high = omega (arith, ints) })
