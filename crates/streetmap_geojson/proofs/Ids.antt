-- The decimal text of a whole number is an id.
use Rattle.std.proofs.Common.{◌≡◌, ℕ, zero, suc, ◌-◌, ◌^◌, ◌<◌, ◌≤◌, ℤ, pos, negsuc, Bool, true, false, cond, not, ltb, IsTrue, List, [], ◌∷◌, length, refl, arith, decimal, FitsSigned}
use Rattle.std.specs.Char.{is_control}
use Rattle.std.specs.Int.{w128}
use Rattle.std.specs.List.{list_all}
use Rattle.std.specs.Str.{IsAscii}
use Rattle.std.specs.Str.Parse.{AllDigits}
use Rattle.std.specs.Fmt.{signed_decimal}
use Rattle.std.proofs.lemmas.Bool.{le-leb, ltb-true, ltb-false, lt-ltb}
use Rattle.std.proofs.lemmas.Bool.Decides.{nat_tests}
use Rattle.std.proofs.lemmas.Fmt.{decimal_is_IsNumeral_wide, length-decimal-le_wide, IsAscii-from_digits}
use Rattle.std.proofs.lemmas.Str.{chars-IsAscii}
use Rattle.streetmap_geojson.specs.Id.{is_id, has_no_controls}

-- from 0 to 9
abbrev pub IsDigit : ℕ → Type 0
IsDigit b = (48 ≤ b) × (b ≤ 57)

-- by the tests of `digit_value`, from the left
digit_by : (c : ℕ) (t u v w x y : Bool) → ltb c 48 ≡ t → ltb c 58 ≡ u → ltb c 65 ≡ v → ltb c 97 ≡ x
    → cond t 36 (cond u (c - 48) (cond v 36 (cond w (c - 55) (cond x 36 (cond y (c - 87) 36))))) < 10 → IsDigit c
digit_by c true u v w x y p q r z h = absurd (omega arith)
digit_by c false true v w x y p q r z h = let low : 48 ≤ c = ltb-false c 48 p in let high : c < 58 = ltb-true c 58 q in (low, omega arith)
digit_by c false false true w x y p q r z h = absurd (omega arith)
digit_by c false false false true x y p q r z h = let low : 65 ≤ c = ltb-false c 65 r in absurd (omega arith)
digit_by c false false false false true y p q r z h = absurd (omega arith)
digit_by c false false false false false true p q r z h = let low : 97 ≤ c = ltb-false c 97 z in absurd (omega arith)
digit_by c false false false false false false p q r z h = absurd (omega arith)

digit_of : (b : ℕ) (s : List ℕ) → AllDigits 10 (b ∷ s) → IsDigit b
digit_of b s h = digit_by b (ltb b 48) (ltb b 58) (ltb b 65) (ltb b 91) (ltb b 97) (ltb b 123) refl refl refl refl h.0

-- a printing character of ASCII is no control character
printing : (b : ℕ) → 32 ≤ b → b < 127 → not (is_control b) ≡ true
printing b low high = grind (arith, nat_tests)

digits_printing : (s : List ℕ) → AllDigits 10 s → list_all (λ c. not (is_control c)) s ≡ true
digits_printing [] h = refl
digits_printing (b ∷ s) h =
    let d = digit_of b s h in
    rw (printing b (omega (arith, d.0)) (omega (arith, d.1)), digits_printing s h.1) refl

plain_ascii : (s : List ℕ) → IsAscii s → list_all (λ c. not (is_control c)) s ≡ true → IsTrue (has_no_controls s)
plain_ascii s ascii printing = rw (chars-IsAscii s ascii) printing

ascii-cons : (b : ℕ) (s : List ℕ) → b < 128 → IsAscii s → IsAscii (b ∷ s)
ascii-cons b s low ascii zero = low
ascii-cons b s low ascii (suc i) = ascii i

is_id_by : (s : List ℕ) → 0 < length s → length s ≤ 128 → IsTrue (has_no_controls s) → IsTrue (is_id s)
is_id_by s some short plain = rw (lt-ltb 0 (length s) some, le-leb (length s) 128 short) plain

abbrev pub magnitude : ℤ → ℕ
magnitude (pos n) = n
magnitude (negsuc n) = suc n

-- numbers of at most 40 digits
pub decimal_id : (z : ℤ) → magnitude z < 10 ^ 40 → IsTrue (is_id (signed_decimal z))
decimal_id (pos n) h =
    let d = decimal_is_IsNumeral_wide n (omega arith) in
    let short = length-decimal-le_wide 40 n (omega arith) h (omega arith) in
    let ascii : IsAscii (decimal n) = IsAscii-from_digits (decimal n) d.0.1 in
    is_id_by (decimal n) d.0.0 (omega (arith, short)) (plain_ascii (decimal n) ascii (digits_printing (decimal n) d.0.1))
decimal_id (negsuc n) h =
    let d = decimal_is_IsNumeral_wide (suc n) (omega arith) in
    let short = length-decimal-le_wide 40 (suc n) (omega arith) h (omega arith) in
    let ascii : IsAscii (45 ∷ decimal (suc n)) = ascii-cons 45 (decimal (suc n)) (omega arith) (IsAscii-from_digits (decimal (suc n)) d.0.1) in
    is_id_by (45 ∷ decimal (suc n)) (omega arith) (omega (arith, short)) (plain_ascii (45 ∷ decimal (suc n)) ascii (digits_printing (decimal (suc n)) d.0.1))

pub magnitude_fits : (z : ℤ) → FitsSigned w128 z → magnitude z < 10 ^ 40
magnitude_fits (pos n) h = omega (arith, h)
magnitude_fits (negsuc n) h = omega (arith, h)
