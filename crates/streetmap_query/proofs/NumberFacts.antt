-- Steps of the reader of numbers.
use Rattle.std.proofs.Common.{◌≡◌, ℕ, ◌+◌, ◌*◌, ◌-◌, ◌<◌, ◌≤◌, ◌^◌, List, [], ◌∷◌, length, Some, None, refl, ap, arith, false}
use Rattle.std.specs.Prelude.{◌==◌}
use Rattle.std.proofs.Math.Nat.{pow-le-pow_right}
use Rattle.std.proofs.lemmas.Grind.{common_steps, pow_more}
use Rattle.std.proofs.lemmas.Option.{cond_some}
use Rattle.std.proofs.lemmas.Bool.Decides.{nat_tests}
use Rattle.std.specs.Char.{is_ascii_digit}
use Rattle.streetmap_query.specs.Number.{digit_at, digits_at}

pub digit_shorter : (text : List ℕ) (n : ℕ) (rest : List ℕ) → digit_at text ≡ Some (n, rest) → length rest < length text
unfolding digit_at
digit_shorter [] n rest e = grind (arith, common_steps)
digit_shorter (b ∷ text) n rest e = grind (arith, common_steps)

-- after the digits
pub digits_end : (room n : ℕ) (text : List ℕ) → digit_at text ≡ None → digits_at room n text ≡ Some (n, text)
unfolding digit_at digits_at
digits_end room n [] e = refl
digits_end room n (b ∷ text) e = grind (arith, common_steps)

-- one digit too many
pub digits_full : (n : ℕ) (text : List ℕ) (d : ℕ) (rest : List ℕ) → digit_at text ≡ Some (d, rest) → digits_at 0 n text ≡ None
unfolding digit_at digits_at
digits_full n [] d rest e = grind (arith, common_steps)
digits_full n (b ∷ text) d rest e = grind (arith, common_steps)

-- one more digit
pub digits_step : (room less n : ℕ) (text : List ℕ) (d : ℕ) (rest : List ℕ) → digit_at text ≡ Some (d, rest) → room ≡ less + 1 → digits_at less (10 * n + d) rest ≡ digits_at room n text
unfolding digit_at digits_at
digits_step room less n [] d rest e h = grind (arith, common_steps)
digits_step room less n (b ∷ text) d rest e h =
    let parts = cond_some (is_ascii_digit b) (b - 48, text) (d, rest) e in
    let is_digit = parts.0 in
    let number : b - 48 ≡ d = ap (λ p. p.0) parts.1 in
    let following : text ≡ rest = ap (λ p. p.1) parts.1 in
    let positive : (room == 0) ≡ false = grind (arith, nat_tests) in
    let fewer : room - 1 ≡ less = omega arith in
    rw (is_digit, positive, fewer, ← number, ← following) refl

-- a digit more, and a place more
pub longer : (n d k : ℕ) → n < 10 ^ k → d < 10 → 10 * n + d < 10 ^ (k + 1)
longer n d k h g = omega (arith, pow_more 10 k)

-- nineteen digits fit
pub fits : (n k : ℕ) → n < 10 ^ k → k ≤ 18 → 10 * n + 9 < 2 ^ 64
fits n k h g = let most : 10 ^ k ≤ 10 ^ 18 = pow-le-pow_right (omega arith) g in omega arith
