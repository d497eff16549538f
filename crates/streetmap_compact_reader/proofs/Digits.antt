-- A number with one more digit.
use Rattle.std.proofs.Common.{◌≡◌, ℕ, ◌+◌, ◌*◌, ◌/◌, ◌%◌, ◌^◌, ◌<◌, List, [], ◌∷◌, ◌++◌, decimal, ap, ◌∙◌, arith, append_assoc}
use Rattle.std.proofs.lemmas.Fmt.{decimal_digit, decimal_step}

pub first_digit : (d : ℕ) (rest : List ℕ) → d < 10 → decimal d ++ rest ≡ (48 + d) ∷ rest
first_digit d rest h = ap (λ (ds : List ℕ). ds ++ rest) (decimal_digit d h)

pub more_digits : (n d : ℕ) (rest : List ℕ) → 0 < n → n < 10 ^ 14 → d < 10 → decimal (10 * n + d) ++ rest ≡ decimal n ++ (48 + d) ∷ rest
more_digits n d rest some few digit =
    let up : (10 * n + d) / 10 ≡ n = omega arith in
    let last : (10 * n + d) % 10 ≡ d = omega arith in
    let step = decimal_step (10 * n + d) (omega arith) (omega arith) in
    ap (λ (ds : List ℕ). ds ++ rest) (step ∙ ap (λ m. decimal m ++ ((48 + (10 * n + d) % 10) ∷ [])) up ∙ ap (λ m. decimal n ++ ((48 + m) ∷ [])) last)
    ∙ append_assoc (decimal n) ((48 + d) ∷ []) rest
