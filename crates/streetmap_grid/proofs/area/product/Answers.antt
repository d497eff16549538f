use Rattle.std.proofs.Common.{◌≤◌, ◌*◌, ◌*ℤ◌, FitsSigned, arith, w64, refl}
use Rattle.std.proofs.Math.Nat.{mul-le-mul}
use Rattle.std.proofs.lemmas.Int.{ints, fits_signed_mul, to_z-of_z, unsigned_abs-mul}
use Rattle.std.specs.Int.RustNames.{unsigned_abs}
use Rattle.streetmap_grid.proofs.area.product.Goals as goal

pub overflow_mul-result : goal.overflow_mul-result
overflow_mul-result c =
    let m : unsigned_abs c.args.a ≤ 1000000000 = omega (arith, ints) in
    let n : unsigned_abs c.args.b ≤ 1000000000 = omega (arith, ints) in
    let x : FitsSigned w64 c.args.a = c.ranges.a in
    let y : FitsSigned w64 c.args.b = c.ranges.b in
    simp to_z-of_z (fits_signed_mul w64 c.args.a c.args.b 1000000000 1000000000 m n (omega arith))

pub returns : goal.returns
returns c =
    let m : unsigned_abs c.args.a ≤ 1000000000 = omega (arith, ints) in
    let n : unsigned_abs c.args.b ≤ 1000000000 = omega (arith, ints) in
    let x : FitsSigned w64 c.args.a = c.ranges.a in
    let y : FitsSigned w64 c.args.b = c.ranges.b in
    let f : FitsSigned w64 (c.args.a *ℤ c.args.b) = fits_signed_mul w64 c.args.a c.args.b 1000000000 1000000000 m n (omega arith) in
    let u : unsigned_abs c.args.a * unsigned_abs c.args.b ≤ 1000000000 * 1000000000 = mul-le-mul m n in
    let v : unsigned_abs (c.args.a *ℤ c.args.b) ≤ 1000000000000000000 = omega (arith, u, unsigned_abs-mul c.args.a c.args.b) in
    simp to_z-of_z (record { value = refl; low = omega (arith, ints, v); high = omega (arith, ints, v) })
