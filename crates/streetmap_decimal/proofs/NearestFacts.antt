-- The nearest whole number.
use Rattle.std.proofs.Common.{◌≡◌, ℕ, ◌+◌, ◌-◌, ◌*◌, ◌/◌, ◌%◌, ◌^◌, ◌<◌, ◌≤◌, Bool, true, false, ℤ, pos, ◌-ℤ◌, ◌*ℤ◌, sym, ap, subst, ◌∙◌, arith}
use Rattle.std.specs.Prelude.{unsigned_abs, int_lt}
use Rattle.std.proofs.lemmas.Int.{ints, unsigned_abs-mul}
use Rattle.std.proofs.Math.Nat.{mod-add-div'}
use Rattle.streetmap_grid.specs.Range.{IsCoordinate}
use Rattle.streetmap_decimal.specs.NumberText.{signed}
use Rattle.streetmap_decimal.specs.Grid.{IsNearest, IsWholeNumber, IsBeyond}
use Rattle.streetmap_decimal.proofs.Powers.{multiple_mod, whole_quotient}
use Rattle.streetmap_decimal.proofs.Signs.{signed_abs, signed-mul, sign_of}

-- how far apart two numbers of one sign are
pub abs_apart : (b : Bool) (a c : ℕ) → unsigned_abs (signed b a -ℤ signed b c) ≡ (a - c) + (c - a)
abs_apart true a c = grind (arith, ints)
abs_apart false a c = grind (arith, ints)

-- the quotient that the code takes
abbrev pub rounded : ℕ → ℕ
rounded n = (n + 500_000_000_000_000_000_000_000_000) / 10 ^ 27

rounded_is : (b : Bool) (n : ℕ) → IsNearest (signed b n) (signed b (rounded n))
rounded_is b n =
    let q = rounded n in
    let e : signed b q *ℤ pos (10 ^ 27) ≡ signed b (q * 10 ^ 27) = signed-mul b q (10 ^ 27) in
    let apart : unsigned_abs
    (signed b q *ℤ pos (10 ^ 27) -ℤ signed b n) ≡ (q * 10 ^ 27 - n) + (n - q * 10 ^ 27) =
    ap (λ (z : ℤ). unsigned_abs (z -ℤ signed b n)) e ∙ abs_apart b (q * 10 ^ 27) n in
    let size : unsigned_abs (signed b q *ℤ pos (10 ^ 27)) ≡ q * 10 ^ 27 = ap unsigned_abs e
    ∙ signed_abs b (q * 10 ^ 27) in
    let same : unsigned_abs (signed b n) ≡ n = signed_abs b n in (
      omega (arith, apart, mod-add-div' (n + 500_000_000_000_000_000_000_000_000) (10 ^ 27)),
      λ h. omega (
        arith,
        h,
        apart,
        size,
        same,
        mod-add-div' (n + 500_000_000_000_000_000_000_000_000) (10 ^ 27),
      ),
    )

-- each number has a nearest whole one
pub nearest_is : (z : ℤ) → IsNearest z (signed (int_lt z (pos 0)) (rounded (unsigned_abs z)))
nearest_is z =
    let b = int_lt z (pos 0) in
    subst (λ (x : ℤ). IsNearest x (signed b (rounded (unsigned_abs z)))) (sym (sign_of z))
    (rounded_is b (unsigned_abs z))

pub in_grid : (b : Bool) (n : ℕ) → n ≤ 1_000_000_000 → IsCoordinate (signed b n)
in_grid true n h = (omega (arith, ints), omega (arith, ints))
in_grid false n h = (omega (arith, ints), omega (arith, ints))

pub out_of_grid : (b : Bool) (n : ℕ) → 1_000_000_000 < n → IsCoordinate (signed b n) → ⊥
out_of_grid true n h c = omega (arith, ints, c.0)
out_of_grid false n h c = omega (arith, ints, c.1)

-- a whole number leaves no rest
pub whole_rest : (z g : ℤ) → IsWholeNumber z g → unsigned_abs z % 10 ^ 27 ≡ 0
whole_rest z g h = multiple_mod (unsigned_abs z) (10 ^ 27) (unsigned_abs g)
    (ap unsigned_abs h ∙ unsigned_abs-mul g (pos (10 ^ 27)))

-- no rest, and the quotient is that number
pub whole_is : (z : ℤ) → unsigned_abs z % 10 ^ 27 ≡ 0
    → IsWholeNumber z (signed (int_lt z (pos 0)) (rounded (unsigned_abs z)))
whole_is z h =
    let b = int_lt z (pos 0) in
    let n = unsigned_abs z in
    let same : n ≡ rounded n * 10 ^ 27 =
    omega (
      arith,
      whole_quotient n (10 ^ 27) h,
      mod-add-div' (n + 500_000_000_000_000_000_000_000_000) (10 ^ 27),
    ) in
    sign_of z ∙ ap (signed b) same ∙ sym (signed-mul b (rounded n) (10 ^ 27))

-- a product past all counts lies out of the grid
pub far_away : (z : ℤ) → 2 ^ 127 ≤ unsigned_abs z → 1_000_000_000 < rounded (unsigned_abs z)
far_away z h =
    omega (arith, mod-add-div' (unsigned_abs z + 500_000_000_000_000_000_000_000_000) (10 ^ 27))

pub beyond : (z : ℤ) → 2 ^ 127 ≤ unsigned_abs z → IsBeyond z
beyond z h =
    let b = int_lt z (pos 0) in
    let q = rounded (unsigned_abs z) in
    (signed b q, (nearest_is z, out_of_grid b q (far_away z h)))
