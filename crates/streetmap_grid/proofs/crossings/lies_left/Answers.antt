use Rattle.std.proofs.Common.{◌-ℤ◌, FitsSigned, arith, w64, rules}
use Rattle.std.proofs.lemmas.Int.{ints, to_z-of_z}
use Rattle.streetmap_grid.proofs.Whole.{beside_is}
use Rattle.streetmap_grid.proofs.crossings.lies_left.Goals as goal

pub returns : goal.returns
returns c =
    let f0 : FitsSigned w64 c.args.lower.now.x = omega (arith, ints) in
    let f1 : FitsSigned w64 c.args.lower.now.y = omega (arith, ints) in
    let f2 : FitsSigned w64 c.args.upper.now.x = omega (arith, ints) in
    let f3 : FitsSigned w64 c.args.upper.now.y = omega (arith, ints) in
    let f4 : FitsSigned w64 c.args.x = c.ranges.x in
    let f5 : FitsSigned w64 c.args.y = c.ranges.y in
    let f6 : FitsSigned w64 (c.args.x -ℤ c.args.lower.now.x) = omega (arith, ints) in
    let f7 : FitsSigned w64 (c.args.upper.now.y -ℤ c.args.lower.now.y) = omega (arith, ints) in
    let f8 : FitsSigned w64 (c.args.upper.now.x -ℤ c.args.lower.now.x) = omega (arith, ints) in
    let f9 : FitsSigned w64 (c.args.y -ℤ c.args.lower.now.y) = omega (arith, ints) in
    let e1 = simp to_z-of_z at c.product.ensures in
    let e2 = simp to_z-of_z at c.product-2.ensures in
    let g1 : FitsSigned w64 c.product.result = search rules in
    let g2 : FitsSigned w64 c.product-2.result = search rules in
    simp to_z-of_z (beside_is c.args.x c.args.y c.args.lower.now.x c.args.lower.now.y c.args.upper.now.x c.args.upper.now.y c.product.result c.product-2.result e1 e2)

pub product-requires-2 : goal.product-requires-2
product-requires-2 c = omega (arith, ints)
