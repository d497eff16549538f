-- Texts of digits, and the numbers that `parse` reads from them.
use Rattle.std.proofs.Common.{◌≡◌, ℕ, ◌<◌, ◌≤◌, ◌^◌, min, Bool, true, false, List, [], ◌∷◌, length, Some, None, Ok, Err, refl, ap, arith}
use Rattle.std.specs.Prelude.{◌&&◌, nat_lt}
use Rattle.std.specs.Char.{is_ascii_digit}
use Rattle.std.specs.List.{list_all}
use Rattle.std.specs.Str.{all_ascii_digits}
use Rattle.std.specs.Str.Parse.{digits_value, ParsesUnsigned}
use Rattle.std.proofs.lemmas.Bool.Decides.{nat_tests}
use Rattle.std.proofs.lemmas.Str.Parse.{numerals_by_value, tells_all_ascii_digits, parse_digits}
use Rattle.streetmap_query.specs.Limit.{limit_of}
use Rattle.streetmap_routes.specs.ChangesQuery.{is_number, serial_of}

pub digits_alone : (ds : List ℕ) → list_all is_ascii_digit ds ≡ all_ascii_digits ds
digits_alone [] = refl
digits_alone (c ∷ cs) = ap (λ t. is_ascii_digit c && t) (digits_alone cs)

both_true : (a b : Bool) → (a && b) ≡ true → (a ≡ true) × (b ≡ true)
both_true true b h = (refl, h)
both_true false b h = absurd (let bad : false ≡ true = h in cc)

above : (n : ℕ) → nat_lt 0 n ≡ true → 0 < n
above n h = grind (arith, nat_tests)

below : (m n : ℕ) → m < n → nat_lt m n ≡ true
below m n h = grind (arith, nat_tests)

from : (m n : ℕ) → n ≤ m → nat_lt m n ≡ false
from m n h = grind (arith, nat_tests)

module _ (text : List ℕ) (number : is_number text ≡ true) where
  parts : (nat_lt 0 (length text) ≡ true) × (all_ascii_digits text ≡ true)
  parts = both_true (nat_lt 0 (length text)) (all_ascii_digits text) number

  -- the number was read
  pub number_read : (n : ℕ) → ParsesUnsigned {E = Unit {0}} 64 10 text (Ok n) → (digits_value 10 text < 2 ^ 64) × (n ≡ digits_value 10 text)
  number_read n read =
      let it = parse_digits (numerals_by_value _ tells_all_ascii_digits) {E = Unit {0}} 64 text (Ok n) read parts.1 in
      (it.0.1, it.1)

  -- it is too large
  pub number_above : {E : Type 0} (e : E) → ParsesUnsigned 64 10 text (Err e) → 2 ^ 64 ≤ digits_value 10 text
  number_above e read =
      let none = parse_digits (numerals_by_value _ tells_all_ascii_digits) 64 text (Err e) read parts.1 in
      by (nat_lt (digits_value 10 text) (2 ^ 64)) refl none where
        by : (t : Bool) → nat_lt (digits_value 10 text) (2 ^ 64) ≡ t
            → ((0 < length text) × (digits_value 10 text < 2 ^ 64) → ⊥) → 2 ^ 64 ≤ digits_value 10 text
        by true is none = let low : digits_value 10 text < 2 ^ 64 = grind (arith, nat_tests) in absurd (none (above (length text) parts.0, low))
        by false is none = grind (arith, nat_tests)

  pub serial_is : (n : ℕ) → digits_value 10 text < 2 ^ 64 → n ≡ digits_value 10 text → Some n ≡ serial_of text
  unfolding serial_of
  serial_is n low is = rw (number, below (digits_value 10 text) (2 ^ 64) low) (ap (λ m. Some m) is)

  pub no_serial : 2 ^ 64 ≤ digits_value 10 text → None ≡ serial_of text
  unfolding serial_of
  no_serial high = rw (number, from (digits_value 10 text) (2 ^ 64) high) refl

  pub limit_is : (n : ℕ) → 0 < n → n ≡ digits_value 10 text → Some (min n 1000) ≡ limit_of text
  limit_is n low is =
      let some : nat_lt 0 (digits_value 10 text) ≡ true = below 0 (digits_value 10 text) (omega (arith, is, low)) in
      rw (parts.0, parts.1, some) (ap (λ m. Some (min m 1000)) is)

  pub limit_above : 2 ^ 64 ≤ digits_value 10 text → Some 1000 ≡ limit_of text
  limit_above high =
      let some : nat_lt 0 (digits_value 10 text) ≡ true = below 0 (digits_value 10 text) (omega (arith, high)) in
      let most : 1000 ≡ min (digits_value 10 text) 1000 = omega (arith, high) in
      rw (parts.0, parts.1, some) (ap (λ m. Some m) most)
