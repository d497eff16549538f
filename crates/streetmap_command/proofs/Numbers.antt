-- Numbers in decimal digits.
use Rattle.std.proofs.Common.{◌≡◌, ℕ, ◌<◌, ◌^◌, List, [], ◌∷◌, refl, true, None, Some, Err, Ok, Result, arith, length}
use Rattle.std.specs.List.{list_all}
use Rattle.std.specs.Char.{is_ascii_digit}
use Rattle.std.specs.Str.{all_ascii_digits}
use Rattle.std.specs.Str.Parse.{digits_value, ParsesUnsigned}
use Rattle.std.specs.Result.{OkIff, result_ok}
use Rattle.std.proofs.lemmas.Bool.Decides.{nat_tests}
use Rattle.std.proofs.lemmas.Grind.{common_steps}
use Rattle.std.proofs.lemmas.Str.Parse.{IsNumeralModel, numerals_by_value, tells_all_ascii_digits, parse_digits}
use Rattle.streetmap_command.specs.Program.{number_up_to}

own : IsNumeralModel (λ ds. all_ascii_digits ds ≡ true) (digits_value 10)
own = numerals_by_value _ tells_all_ascii_digits

digits_alone : (text : List ℕ) → list_all is_ascii_digit text ≡ true → all_ascii_digits text ≡ true
digits_alone [] h = refl
digits_alone (c ∷ cs) h = grind (arith, common_steps, digits_alone cs)

-- what is read from digits only
parsed : {E : Type 0} (text : List ℕ) (r : Result ℕ E) → ParsesUnsigned 32 10 text r → list_all is_ascii_digit text ≡ true
    → OkIff r ((0 < length text) × (digits_value 10 text < 2 ^ 32)) (digits_value 10 text)
parsed text r h digits = parse_digits own 32 text r h (digits_alone text digits)

pub none_read : {E : Type 0} (most : ℕ) (text : List ℕ) (r : Result ℕ E) → most < 2 ^ 32 → ParsesUnsigned 32 10 text r → list_all is_ascii_digit text ≡ true
    → result_ok r ≡ None → number_up_to most text ≡ None
none_read most text (Ok n) top h digits e = absurd (let no : Some n ≡ None = e in cc)
none_read {E = E} most text (Err x) top h digits e =
    let no = parsed {E = E} text (Err x) h digits in
    grind (arith, common_steps, nat_tests, no)
