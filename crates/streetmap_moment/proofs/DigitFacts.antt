-- Steps of the reader of a fraction.
use Rattle.std.proofs.Common.{◌≡◌, ℕ, ◌+◌, ◌*◌, ◌/◌, ◌-◌, ◌<◌, List, [], ◌∷◌, length, Option, Some, None, refl, ap, arith, false, add_assoc}
use Rattle.std.specs.Prelude.{option_map, ◌==◌}
use Rattle.std.proofs.lemmas.Grind.{common_steps}
use Rattle.std.specs.Char.{is_ascii_digit}
use Rattle.std.proofs.lemmas.Option.{cond_some}
use Rattle.std.proofs.lemmas.Bool.Decides.{nat_tests}
use Rattle.streetmap_moment.specs.DateTimeParts.{digit_at, digits_at, ◌>>=◌}

-- what was read, with more in front
abbrev pub with_front : ℕ → Option (ℕ × List ℕ) → Option (ℕ × List ℕ)
with_front total r = option_map (λ x. (total + x.0, x.1)) r

pub digit_shorter : (text : List ℕ) (n : ℕ) (rest : List ℕ) → digit_at text ≡ Some (n, rest) → length rest < length text
unfolding digit_at
digit_shorter [] n rest e = grind (arith, common_steps)
digit_shorter (b ∷ text) n rest e = grind (arith, common_steps)

-- after the digits
pub digits_end : (unit : ℕ) (text : List ℕ) → digit_at text ≡ None → digits_at unit text ≡ Some (0, text)
unfolding digit_at digits_at
digits_end unit [] e = refl
digits_end unit (b ∷ text) e = grind (arith, common_steps)

-- a tenth digit
pub digits_full : (text : List ℕ) (n : ℕ) (rest : List ℕ) → digit_at text ≡ Some (n, rest) → digits_at 0 text ≡ None
unfolding digit_at digits_at
digits_full [] n rest e = grind (arith, common_steps)
digits_full (b ∷ text) n rest e = grind (arith, common_steps)

-- a number in front of what is read, and more in front of that
front_more : (total m : ℕ) (r : Option (ℕ × List ℕ)) → with_front (total + m) r ≡ with_front total (r >>= λ x. Some (m + x.0, x.1))
front_more total m None = refl
front_more total m (Some x) = ap (λ k. Some (k, x.1)) (add_assoc total m x.0)

-- one more digit
pub digits_step : (total unit : ℕ) (text : List ℕ) (n : ℕ) (rest : List ℕ) → digit_at text ≡ Some (n, rest) → 0 < unit → with_front (total + n * unit) (digits_at (unit / 10) rest) ≡ with_front total (digits_at unit text)
unfolding digit_at digits_at
digits_step total unit [] n rest e h = grind (arith, common_steps)
digits_step total unit (b ∷ text) n rest e h =
    let parts = cond_some (is_ascii_digit b) (b - 48, text) (n, rest) e in
    let is_digit = parts.0 in
    let number : b - 48 ≡ n = ap (λ p. p.0) parts.1 in
    let following : text ≡ rest = ap (λ p. p.1) parts.1 in
    let positive : (unit == 0) ≡ false = grind (arith, nat_tests) in
    rw (is_digit, positive, ← number, ← following) (front_more total ((b - 48) * unit) (digits_at (unit / 10) text))
