use Rattle.std.proofs.Common.{◌≤◌, ◌*ℤ◌, FitsSigned, arith, w64}
use Rattle.std.proofs.lemmas.Int.{ints, fits_signed_mul, to_z-of_z}
use Rattle.std.specs.Int.RustNames.{unsigned_abs}
use Rattle.streetmap_grid.proofs.segment.product.Goals as goal

pub overflow_mul-result : goal.overflow_mul-result
overflow_mul-result c =
    let m : unsigned_abs c.args.width ≤ 3000000000 = omega (arith, ints) in
    let n : unsigned_abs c.args.along ≤ 2000000000 = omega (arith, ints) in
    let x : FitsSigned w64 c.args.width = c.ranges.width in
    let y : FitsSigned w64 c.args.along = c.ranges.along in
    simp to_z-of_z (fits_signed_mul w64 c.args.width c.args.along 3000000000 2000000000 m n (omega arith))

pub returns : goal.returns
returns c =
    let m : unsigned_abs c.args.width ≤ 3000000000 = omega (arith, ints) in
    let n : unsigned_abs c.args.along ≤ 2000000000 = omega (arith, ints) in
    let x : FitsSigned w64 c.args.width = c.ranges.width in
    let y : FitsSigned w64 c.args.along = c.ranges.along in
    let f : FitsSigned w64 (c.args.width *ℤ c.args.along) = fits_signed_mul w64 c.args.width c.args.along 3000000000 2000000000 m n (omega arith) in
    simp to_z-of_z
