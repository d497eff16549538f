-- Powers of ten, and numbers times them.
use Rattle.std.proofs.Common.{◌≡◌, ◌≢◌, ℕ, zero, suc, ◌+◌, ◌*◌, ◌/◌, ◌%◌, ◌^◌, ◌<◌, ◌≤◌, sym, ap, ◌∙◌, arith, lit<, inl, inr}
use Rattle.std.proofs.lemmas.Bool.{cases_lt}
use Rattle.std.proofs.Math.Nat.{pow-le-pow_right, one-le-pow, pow-suc, mul-le-mul_right, mul_assoc, mod-add-div', mul-mod_left}
use Rattle.std.proofs.Math.Numerals.{add-one}

pub pow_some : (k : ℕ) → 1 ≤ 10 ^ k
pow_some k = one-le-pow k 10 (lit< tt)

pub pow_rises : (i j : ℕ) → i ≤ j → 10 ^ i ≤ 10 ^ j
pow_rises i j h = pow-le-pow_right {n = 10} (lit< tt) {i = i} {j = j} h

pub pow_fits : (k : ℕ) → k < 38 → 10 ^ k < 2 ^ 128
pow_fits k h = omega (arith, pow_rises k 37 (omega arith))

-- one or more, times a power no smaller than the limit, is no smaller than the limit
pub times_large : (n k j : ℕ) → 1 ≤ n → j ≤ k → 10 ^ j ≤ n * 10 ^ k
times_large n k j some h =
    omega (arith, pow_rises j k h, mul-le-mul_right {m = 1} {n = n} (10 ^ k) some)

-- a number below the power is no multiple of it, unless it is zero
pub no_multiple : (n k m : ℕ) → 1 ≤ n → n < 10 ^ k → n ≢ m * 10 ^ k
no_multiple n k zero some small e = omega arith
no_multiple n k (suc m) some small e = omega
    (arith, mul-le-mul_right {m = 1} {n = suc m} (10 ^ k) (omega arith))

-- a quotient without a rest
pub whole_quotient : (n d : ℕ) → n % d ≡ 0 → n ≡ n / d * d
whole_quotient n d e = omega (arith, mod-add-div' n d)

-- a multiple leaves no rest
pub multiple_mod : (n d m : ℕ) → n ≡ m * d → n % d ≡ 0
multiple_mod n d m e = ap (λ k. k % d) e ∙ mul-mod_left m d

-- one digit more
pub one_more : (v b i c : ℕ) → v < b * 10 ^ i → c < 10 → v * 10 + c < b * 10 ^ (i + 1)
one_more v b i c h small =
    let e : b * 10 ^ (i + 1) ≡ (b * 10 ^ i) * 10 =
    rw (add-one, pow-suc) (sym (mul_assoc b (10 ^ i) 10)) in
    omega (arith, e)

-- a number between two consecutive multiples is below the second
pub between_multiples : (u v n p : ℕ) → u * p ≤ n → n < (v + 1) * p → u ≤ v
between_multiples u v n p low high =
    elim (cases_lt v u) [
      | inl h ↦ absurd (omega (arith, mul-le-mul_right {m = v + 1} {n = u} p (omega arith)))
      | inr h ↦ h
    ]

-- a quotient, and the next number: both sides of the number divided
pub floor_of : (n d : ℕ) → 1 ≤ d → (n / d * d ≤ n) × (n < (n / d + 1) * d)
floor_of n d some = (omega (arith, mod-add-div' n d), omega (arith, mod-add-div' n d))

pub whole_ceiling : (n d : ℕ) → 1 ≤ d → n % d ≡ 0 → (n ≤ n / d * d) × (n / d * d < n + d)
whole_ceiling n d some e = (omega (arith, mod-add-div' n d), omega (arith, mod-add-div' n d))

pub rest_ceiling : (n d : ℕ) → 1 ≤ d → n % d ≢ 0 → (n ≤ (n / d + 1) * d) × ((n / d + 1) * d < n + d)
rest_ceiling n d some e = (omega (arith, mod-add-div' n d), omega (arith, mod-add-div' n d))

pub nat_le_cancel : (a b p : ℕ) → 1 ≤ p → a * p ≤ b * p → a ≤ b
nat_le_cancel a b p some h = between_multiples a b (a * p) p (omega arith) (omega (arith, h))

pub nat_cancel : (a b p : ℕ) → 1 ≤ p → a * p ≡ b * p → a ≡ b
nat_cancel a b p some e =
    omega (
      arith,
      nat_le_cancel a b p some (omega (arith, e)),
      nat_le_cancel b a p some (omega (arith, e)),
    )
