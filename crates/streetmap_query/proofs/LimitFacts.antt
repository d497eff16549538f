-- Digits, one more at a time.
use Rattle.std.proofs.Common.{◌≡◌, ℕ, ◌+◌, ◌*◌, ◌-◌, ◌<◌, ◌≤◌, List, [], ◌∷◌, ◌++◌, length, take, drop, get_or, refl, ap, ◌∙◌, sym, arith, true, false, min, None, drop-cons, take-append-drop}
use Rattle.std.specs.Char.{is_ascii_digit, digit_value}
use Rattle.std.specs.Str.{all_ascii_digits}
use Rattle.std.specs.Str.Parse.{digits_value}
use Rattle.std.proofs.lemmas.Bool.Decides.{nat_tests}
use Rattle.std.proofs.lemmas.Grind.{common_steps}
use Rattle.std.proofs.lemmas.Int.Digits.{digits_value_more}
use Rattle.std.proofs.lemmas.List.{take_more}
use Rattle.std.proofs.lemmas.Str.{digit_value_digit}
use Rattle.streetmap_query.specs.Limit.{limit_of}

-- what a digit counts
pub digit_counts : (c : ℕ) → is_ascii_digit c ≡ true → digit_value c ≡ c - 48
digit_counts c h =
    let low : 48 ≤ c = grind (arith, nat_tests) in
    let high : c ≤ 57 = grind (arith, nat_tests) in
    omega (arith, digit_value_digit c (low, high))

digits_after : (xs ys : List ℕ) → all_ascii_digits xs ≡ true → all_ascii_digits (xs ++ ys) ≡ all_ascii_digits ys
digits_after [] ys h = refl
digits_after (x ∷ xs) ys h = grind (arith, common_steps, digits_after xs ys)

pub digits_take : (text : List ℕ) (i : ℕ) → i < length text → all_ascii_digits (take i text) ≡ true → is_ascii_digit (get_or text i 0) ≡ true → all_ascii_digits (take (i + 1) text) ≡ true
digits_take text i h all one =
    rw (take_more text i 0 h, digits_after (take i text) (get_or text i 0 ∷ []) all, one) refl

pub number_take : (text : List ℕ) (i n : ℕ) → i < length text → is_ascii_digit (get_or text i 0) ≡ true → n ≡ min (digits_value 10 (take i text)) 1000 → min (10 * n + (get_or text i 0 - 48)) 1000 ≡ min (digits_value 10 (take (i + 1) text)) 1000
number_take text i n h one e =
    rw (digits_value_more 10 text i h, digit_counts (get_or text i 0) one) (omega (arith, e))

pub no_limit : (text : List ℕ) (i : ℕ) → i < length text → all_ascii_digits (take i text) ≡ true → is_ascii_digit (get_or text i 0) ≡ false → limit_of text ≡ None
no_limit text i h all one =
    let parts : all_ascii_digits (take i text ++ drop i text) ≡ false = rw (digits_after (take i text) (drop i text) all, drop-cons text i 0 h, one) refl in
    let whole : all_ascii_digits text ≡ false = ap all_ascii_digits (sym (take-append-drop i text)) ∙ parts in
    rw whole (grind (arith, common_steps))
