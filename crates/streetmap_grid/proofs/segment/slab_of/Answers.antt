use Rattle.std.proofs.Common.{◌-ℤ◌, FitsSigned, arith, w64}
use Rattle.std.proofs.lemmas.Int.{ints, to_z-of_z}
use Rattle.streetmap_grid.proofs.Fractions.{rising-out, rising-in, falling-out, falling-in}
use Rattle.streetmap_grid.proofs.segment.slab_of.Goals as goal

pub returns-then-from-to-clause-reached : goal.returns-then-from-to-clause-reached
returns-then-from-to-clause-reached c =
    let a : FitsSigned w64 c.args.from = c.ranges.from in
    let b : FitsSigned w64 c.args.to = c.ranges.to in
    let l : FitsSigned w64 c.args.low = c.ranges.low in
    let h : FitsSigned w64 c.args.high = c.ranges.high in
    let n : FitsSigned w64 (c.args.low -ℤ c.args.from) = omega (arith, ints) in
    let f : FitsSigned w64 (c.args.high -ℤ c.args.from) = omega (arith, ints) in
    let g : FitsSigned w64 (c.args.to -ℤ c.args.from) = omega (arith, ints) in
    simp to_z-of_z (λ p q w. rising-out p q c.args.from c.args.to c.args.low c.args.high w)

pub returns-then-from-to-clause-within : goal.returns-then-from-to-clause-within
returns-then-from-to-clause-within c =
    let a : FitsSigned w64 c.args.from = c.ranges.from in
    let b : FitsSigned w64 c.args.to = c.ranges.to in
    let l : FitsSigned w64 c.args.low = c.ranges.low in
    let h : FitsSigned w64 c.args.high = c.ranges.high in
    let n : FitsSigned w64 (c.args.low -ℤ c.args.from) = omega (arith, ints) in
    let f : FitsSigned w64 (c.args.high -ℤ c.args.from) = omega (arith, ints) in
    let g : FitsSigned w64 (c.args.to -ℤ c.args.from) = omega (arith, ints) in
    simp to_z-of_z (λ p q w. rising-in p q c.args.from c.args.to c.args.low c.args.high w)

pub returns-clause-reached : goal.returns-clause-reached
returns-clause-reached c =
    let a : FitsSigned w64 c.args.from = c.ranges.from in
    let b : FitsSigned w64 c.args.to = c.ranges.to in
    let l : FitsSigned w64 c.args.low = c.ranges.low in
    let h : FitsSigned w64 c.args.high = c.ranges.high in
    let n : FitsSigned w64 (c.args.from -ℤ c.args.high) = omega (arith, ints) in
    let f : FitsSigned w64 (c.args.from -ℤ c.args.low) = omega (arith, ints) in
    let g : FitsSigned w64 (c.args.from -ℤ c.args.to) = omega (arith, ints) in
    simp to_z-of_z (λ p q w. falling-out p q c.args.from c.args.to c.args.low c.args.high w)

pub returns-clause-within : goal.returns-clause-within
returns-clause-within c =
    let a : FitsSigned w64 c.args.from = c.ranges.from in
    let b : FitsSigned w64 c.args.to = c.ranges.to in
    let l : FitsSigned w64 c.args.low = c.ranges.low in
    let h : FitsSigned w64 c.args.high = c.ranges.high in
    let n : FitsSigned w64 (c.args.from -ℤ c.args.high) = omega (arith, ints) in
    let f : FitsSigned w64 (c.args.from -ℤ c.args.low) = omega (arith, ints) in
    let g : FitsSigned w64 (c.args.from -ℤ c.args.to) = omega (arith, ints) in
    simp to_z-of_z (λ p q w. falling-in p q c.args.from c.args.to c.args.low c.args.high w)
