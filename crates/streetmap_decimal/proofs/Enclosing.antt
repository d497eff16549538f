-- The counts on both sides of a decimal.
use Rattle.std.proofs.Common.{◌≡◌, ℕ, suc, ◌+◌, ◌-◌, ◌*◌, ◌^◌, ◌<◌, ◌≤◌, true, false, Ok, Err, ℤ, pos, negsuc, ◌+ℤ◌, refl, sym, ap, ◌∙◌, arith}
use Rattle.std.specs.Prelude.{unsigned_abs, int_le, int_lt}
use Rattle.std.proofs.lemmas.Bool.{false≢true}
use Rattle.std.proofs.lemmas.Bool.Decides.{nat_tests}
use Rattle.streetmap_decimal.specs.declared.fault.DecimalFault.TheVariants.{OutOfGrid}
use Rattle.streetmap_decimal.specs.Decimal.{IsFloor, IsCeiling, Sides, Encloses}
use Rattle.streetmap_decimal.proofs.Powers.{pow_some, between_multiples}
use Rattle.streetmap_decimal.proofs.Signs.{signed_abs}

pub large_up : (n : ℕ) (k : ℤ) → int_le (pos 0) k ≡ true → 10 ^ 37 ≤ n * 10 ^ unsigned_abs k
    → Sides n k (Err OutOfGrid)
large_up n (pos k) up large = (n * 10 ^ k, (refl, large))
large_up n (negsuc k) up large = absurd (false≢true up)

never : (k : ℕ) → int_le (pos 0) (pos k) ≡ false → ⊥
never k down = let up : int_le (pos 0) (pos k) ≡ true = grind (arith, nat_tests) in
    false≢true (sym down ∙ up)

pub large_down : (n : ℕ) (k : ℤ) (u : ℕ) → int_le (pos 0) k ≡ false → (u * 10 ^ unsigned_abs k ≤ n)
    × (n < (u + 1) * 10 ^ unsigned_abs k) → 10 ^ 37 ≤ u → Sides n k (Err OutOfGrid)
large_down n (pos k) u down low large = absurd (never k down)
large_down n (negsuc k) u down low large = (u, (low, large))

-- the two are the same, or consecutive
pub sides_near : (n : ℕ) (k : ℤ) (u v : ℕ) → IsFloor n k u → IsCeiling n k v → v ≤ u + 1
sides_near n (pos k) u v low high = omega (arith, low, high)
sides_near n (negsuc k) u v low high =
    let p = 10 ^ suc k in
    let some : 1 ≤ p = pow_some (suc k) in
    between_multiples v (u + 1) (n + (p - 1)) p (omega (arith, high.1, some))
    (omega (arith, low.1, some))

pub far_bound : (places : ℕ) (m e : ℤ) (z : ℤ × ℤ) → Encloses places m e (Ok z)
    → unsigned_abs z.1 ≤ 10 ^ 37
far_bound places m e z h =
    let k = e +ℤ pos places in
    let near = sides_near (unsigned_abs m) k h.0.0 h.0.1 h.1.0.0 h.1.0.1 in
    omega (arith, near, h.1.0.2, ap unsigned_abs h.1.1.1 ∙ signed_abs (int_lt m (pos 0)) h.0.1)
