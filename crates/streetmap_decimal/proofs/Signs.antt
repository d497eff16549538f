-- Numbers with a sign.
use Rattle.std.proofs.Common.{◌≡◌, ℕ, zero, suc, ◌+◌, ◌<◌, ◌≤◌, ◌^◌, Bool, true, false, ℤ, pos, negsuc, ◌<ℤ◌, subst, sym, ◌-ℤ◌, ◌+ℤ◌, ◌*ℤ◌, ◌*◌, refl, ap, ◌∙◌, arith}
use Rattle.std.specs.Prelude.{unsigned_abs, int_lt, int_le}
use Rattle.std.proofs.lemmas.Bool.{false≢true}
use Rattle.std.proofs.lemmas.Bool.Decides.{nat_tests}
use Rattle.std.proofs.Math.Nat.{zero-mul}
use Rattle.std.specs.Prelude.{FitsSigned}
use Rattle.std.specs.Int.{w128, cast_signed, cast_unsigned}
use Rattle.std.proofs.lemmas.Int.{ints, to_z-of_z, to_z_pos, fits_signed_from_abs}
use Rattle.streetmap_decimal.specs.NumberText.{signed}

pub signed_abs : (b : Bool) (n : ℕ) → unsigned_abs (signed b n) ≡ n
signed_abs true zero = refl
signed_abs true (suc n) = refl
signed_abs false n = refl

pub abs_sub : (z : ℤ) (n : ℕ) → unsigned_abs (z -ℤ pos n) ≤ unsigned_abs z + n
abs_sub z n = grind (arith, ints)

pub fits : (z : ℤ) → unsigned_abs z < 2 ^ 127 → FitsSigned w128 z
fits z h = fits_signed_from_abs w128 z h

pub sign_of : (m : ℤ) → m ≡ signed (int_lt m (pos 0)) (unsigned_abs m)
sign_of (pos n) = let no : int_lt (pos n) (pos 0) ≡ false = grind (arith, nat_tests) in rw no refl
sign_of (negsuc n) = refl

pub signed-mul : (b : Bool) (n p : ℕ) → signed b n *ℤ pos p ≡ signed b (n * p)
signed-mul true zero p = rw (zero-mul p) refl
signed-mul true (suc n) p = refl
signed-mul false n p = refl

pub abs_add : (z : ℤ) (n : ℕ) → unsigned_abs (z +ℤ pos n) ≤ unsigned_abs z + n
abs_add z n = grind (arith, ints)

-- a sum as the code computes it
pub raised : (z : ℤ) (n : ℕ) → FitsSigned w128 z → unsigned_abs z < 10 ^ 38 → n < 256
    → cast_signed w128
    (cast_unsigned w128 (cast_signed w128 (cast_unsigned w128 z) +ℤ cast_signed w128 n)) ≡ z +ℤ pos
    n
raised z n f small short =
    let inner : cast_signed w128 (cast_unsigned w128 z) +ℤ cast_signed w128 n ≡ z +ℤ pos n =
    ap (λ k. k +ℤ cast_signed w128 n) (to_z-of_z w128 z f)
    ∙ ap (λ k. z +ℤ k) (to_z_pos w128 n (omega arith)) in
    ap (λ k. cast_signed w128 (cast_unsigned w128 k)) inner
    ∙ to_z-of_z w128 (z +ℤ pos n) (fits (z +ℤ pos n) (omega (arith, abs_add z n)))

pub abs_difference : (y z : ℤ) → unsigned_abs (y -ℤ z) ≤ unsigned_abs y + unsigned_abs z
abs_difference y z = grind (arith, ints)

-- a difference as the code computes it
pub lowered : (y z : ℤ) → FitsSigned w128 y → FitsSigned w128 z → unsigned_abs y < 10 ^ 36
    → unsigned_abs z < 10 ^ 36 → cast_signed w128
    (cast_unsigned w128
    (cast_signed w128 (cast_unsigned w128 y) -ℤ cast_signed w128 (cast_unsigned w128 z))) ≡ y -ℤ z
lowered y z f g small short =
    let inner : cast_signed w128 (cast_unsigned w128 y) -ℤ cast_signed w128
    (cast_unsigned w128 z) ≡ y -ℤ z =
    ap (λ k. k -ℤ cast_signed w128 (cast_unsigned w128 z)) (to_z-of_z w128 y f)
    ∙ ap (λ k. y -ℤ k) (to_z-of_z w128 z g) in
    ap (λ k. cast_signed w128 (cast_unsigned w128 k)) inner
    ∙ to_z-of_z w128 (y -ℤ z) (fits (y -ℤ z) (omega (arith, abs_difference y z)))

above_zero : (n : ℤ) → pos 0 <ℤ n → int_le (pos 1) n ≡ true
above_zero n h = grind (arith, ints, nat_tests)

pub not_above : (s n : ℤ) → pos 0 <ℤ s → s ≡ n → int_le (pos 1) n ≡ false → ⊥
not_above s n up e low = false≢true (sym low ∙ above_zero n (subst (λ (z : ℤ). pos 0 <ℤ z) e up))
