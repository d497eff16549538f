-- Numbers of any length are equal if their digits after the leading zeros are the same.
use Rattle.std.proofs.Common.{◌≡◌, ◌≢◌, ℕ, ◌+◌, ◌*◌, ◌-◌, ◌<◌, ◌≤◌, ◌∙◌, List, [], ◌∷◌, ◌++◌, length, take, get_or, Bool, true, false, refl, sym, ap, subst, arith, suc, zero, length-append, inl, inr}
use Rattle.std.proofs.lemmas.Bool.{cases_order}
use Rattle.std.proofs.lemmas.Bool.Decides.{nat_tests, same_from_decides}
use Rattle.std.proofs.lemmas.Int.Digits.{digits_value_push}
use Rattle.std.proofs.lemmas.List.{get_or_append_left, take_more, take_all}
use Rattle.std.proofs.lemmas.Slice.Eq.{bytes_eq-Decides}
use Rattle.std.specs.Prelude.{IsTrue, ◌==◌, ◌&&◌}
use Rattle.std.specs.Char.{is_ascii_digit}
use Rattle.std.specs.Str.{all_ascii_digits, bytes_eq}
use Rattle.std.specs.Str.Parse.{digits_value}
use Rattle.streetmap_http.specs.Lengths.{is_number, number_of, after_zeros, is_same_number}
use Rattle.streetmap_http.proofs.Digits.{digit_counts}
use Rattle.streetmap_http.proofs.ByLines.{other_than}

-- bytes that are not empty, split before the last one
by_last : (bytes : List ℕ) → 0 < length bytes → bytes ≡ take (length bytes - 1) bytes ++ get_or bytes (length bytes - 1) 0 ∷ []
by_last bytes some =
    let all : take (length bytes - 1 + 1) bytes ≡ bytes = take_all (length bytes - 1 + 1) bytes (omega arith) in
    sym all ∙ take_more bytes (length bytes - 1) 0 (omega arith)

abbrev AreDigits : List ℕ → Type 0
AreDigits text = all_ascii_digits text ≡ true

-- the first digit is not zero
abbrev BeginsAboveZero : List ℕ → Type 0
BeginsAboveZero text = 0 < length text → get_or text 0 0 ≢ 48

both_true : (a b : Bool) → (a && b) ≡ true → (a ≡ true) × (b ≡ true)
both_true true b h = (refl, h)
both_true false b h = cc

front_digits : (xs ys : List ℕ) → AreDigits (xs ++ ys) → AreDigits xs
front_digits [] ys h = refl
front_digits (x ∷ xs) ys h =
    let parts = both_true (is_ascii_digit x) (all_ascii_digits (xs ++ ys)) h in
    rw (parts.0, front_digits xs ys parts.1) refl

last_digit : (xs : List ℕ) (c : ℕ) → AreDigits (xs ++ c ∷ []) → is_ascii_digit c ≡ true
last_digit [] c h = (both_true (is_ascii_digit c) true h).0
last_digit (x ∷ xs) c h = last_digit xs c (both_true (is_ascii_digit x) (all_ascii_digits (xs ++ c ∷ [])) h).1

digit_range : (c : ℕ) → is_ascii_digit c ≡ true → (48 ≤ c) × (c ≤ 57)
digit_range c h = (grind (arith, nat_tests), grind (arith, nat_tests))

-- the number, computed from its last digit and the digits before it
by_last_digit : (text front : List ℕ) (c : ℕ) → text ≡ front ++ c ∷ [] → AreDigits text → (digits_value 10 text ≡ digits_value 10 front * 10 + (c - 48)) × (48 ≤ c) × (c ≤ 57)
by_last_digit text front c e all =
    let last : is_ascii_digit c ≡ true = last_digit front c (subst AreDigits e all) in
    let range = digit_range c last in
    (ap (digits_value 10) e ∙ digits_value_push 10 front c ∙ ap (λ d. digits_value 10 front * 10 + d) (digit_counts c last), range.0, range.1)

front_begins : (text front : List ℕ) (c : ℕ) → text ≡ front ++ c ∷ [] → BeginsAboveZero text → BeginsAboveZero front
front_begins text front c e h some zero_first =
    h (omega (arith, ap length e, length-append front (c ∷ []))) (ap (λ l. get_or l 0 0) e ∙ get_or_append_left front (c ∷ []) 0 0 some ∙ zero_first)

first_alone : (text front : List ℕ) (c : ℕ) → text ≡ front ++ c ∷ [] → front ≡ [] → BeginsAboveZero text → c ≢ 48
first_alone text front c e none h is_zero =
    let whole : text ≡ c ∷ [] = e ∙ ap (λ l. l ++ c ∷ []) none in
    h (omega (arith, ap length whole)) (ap (λ l. get_or l 0 0) whole ∙ is_zero)

-- digits with the value 0 and without a leading zero are none
none_by_zero : (n : ℕ) (text : List ℕ) → length text ≤ n → AreDigits text → BeginsAboveZero text → digits_value 10 text ≡ 0 → text ≡ []
none_by_zero n [] short all begins none = refl
none_by_zero zero (x ∷ xs) short all begins none = absurd (omega arith)
none_by_zero (suc n) (x ∷ xs) short all begins none =
    let text : List ℕ = x ∷ xs in
    let front : List ℕ = take (length text - 1) text in
    let c : ℕ = get_or text (length text - 1) 0 in
    let e : text ≡ front ++ c ∷ [] = by_last text (omega arith) in
    let by = by_last_digit text front c e all in
    let less : length front ≤ n = omega (arith, ap length e, length-append front (c ∷ []), short) in
    let digits : AreDigits front = front_digits front (c ∷ []) (subst AreDigits e all) in
    let nothing : front ≡ [] = none_by_zero n front less digits (front_begins text front c e begins) (omega (arith, by.0, none)) in
    absurd (first_alone text front c e nothing begins (omega (arith, by.0, by.1, none)))

-- digits that write the same number without leading zeros are the same
same_digits : (n : ℕ) (a b : List ℕ) → length a ≤ n → AreDigits a → AreDigits b → BeginsAboveZero a → BeginsAboveZero b → digits_value 10 a ≡ digits_value 10 b → a ≡ b
same_digits n [] b short da db za zb same = sym (none_by_zero (length b) b (omega arith) db zb (sym same))
same_digits n (x ∷ xs) [] short da db za zb same = none_by_zero (length (x ∷ xs)) (x ∷ xs) (omega arith) da za same
same_digits zero (x ∷ xs) (y ∷ ys) short da db za zb same = absurd (omega arith)
same_digits (suc n) (x ∷ xs) (y ∷ ys) short da db za zb same =
    let a : List ℕ = x ∷ xs in
    let b : List ℕ = y ∷ ys in
    let fa : List ℕ = take (length a - 1) a in
    let fb : List ℕ = take (length b - 1) b in
    let c : ℕ = get_or a (length a - 1) 0 in
    let d : ℕ = get_or b (length b - 1) 0 in
    let ea : a ≡ fa ++ c ∷ [] = by_last a (omega arith) in
    let eb : b ≡ fb ++ d ∷ [] = by_last b (omega arith) in
    let pa = by_last_digit a fa c ea da in
    let pb = by_last_digit b fb d eb db in
    let less : length fa ≤ n = omega (arith, ap length ea, length-append fa (c ∷ []), short) in
    let fronts : fa ≡ fb =
    same_digits n fa fb less (front_digits fa (c ∷ []) (subst AreDigits ea da)) (front_digits fb (d ∷ []) (subst AreDigits eb db)) (front_begins a fa c ea za) (front_begins b fb d eb zb)
    (omega (arith, pa.0, pb.0, same, pa.1, pa.2, pb.1, pb.2)) in
    let lasts : c ≡ d = omega (arith, pa.0, pb.0, same, pa.1, pa.2, pb.1, pb.2) in
    ea ∙ ap (λ l. l ++ c ∷ []) fronts ∙ ap (λ k. fb ++ k ∷ []) lasts ∙ sym eb

-- the digits after the leading zeros
pub record Stripped (text : List ℕ) : Type 0 where
  pub digits : AreDigits (after_zeros text)
  pub begins : BeginsAboveZero (after_zeros text)
  pub same : digits_value 10 (after_zeros text) ≡ digits_value 10 text

stripped : (text : List ℕ) → AreDigits text → Stripped text
unfolding after_zeros
stripped [] all = record { digits = refl; begins = λ some. absurd (omega arith); same = refl }
stripped (x ∷ xs) all = elim (cases_order x 48) [
  | inl zero_first ↦ subst (λ c. Stripped (c ∷ xs)) (sym zero_first)
      (let s = stripped xs (both_true (is_ascii_digit x) (all_ascii_digits xs) all).1 in record { digits = s.digits; begins = s.begins; same = s.same })
  | inr apart ↦
      let h : x ≢ 48 = λ e. elim apart [ inl k ↦ omega (arith, e) | inr k ↦ omega (arith, e) ] in
      let kept : after_zeros (x ∷ xs) ≡ x ∷ xs = rw (other_than x 48 h) refl in
      record { digits = subst AreDigits (sym kept) all; begins = subst BeginsAboveZero (sym kept) (λ some e. h e); same = ap (digits_value 10) kept }
]

equal_test : (m n : ℕ) → IsTrue (m == n) → m ≡ n
equal_test m n h = grind (arith, nat_tests)

test_equal : (m n : ℕ) → m ≡ n → IsTrue (m == n)
test_equal m n h = grind (arith, nat_tests)

compared : (a b : List ℕ) → AreDigits a → AreDigits b → bytes_eq (after_zeros a) (after_zeros b) ≡ (number_of a == number_of b)
compared a b da db =
    let sa = stripped a da in
    let sb = stripped b db in
    same_from_decides (bytes_eq (after_zeros a) (after_zeros b)) (number_of a == number_of b) (bytes_eq-Decides (after_zeros a) (after_zeros b)) (
      λ t. same_digits (length (after_zeros a)) (after_zeros a) (after_zeros b) (omega arith) sa.digits sb.digits sa.begins sb.begins
          (sa.same ∙ equal_test (number_of a) (number_of b) t ∙ sym sb.same),
      λ e. test_equal (number_of a) (number_of b) (sym sa.same ∙ ap (digits_value 10) e ∙ sb.same),
    )

digits_of_number : (text : List ℕ) → IsTrue (is_number text) → AreDigits text
digits_of_number text h = (both_true _ (all_ascii_digits text) h).1

-- the test in the code is the comparison of the numbers
pub same_number : (a b : List ℕ) (n : Bool) → n ≡ is_number a → IsTrue (is_number b) → (n && bytes_eq (after_zeros a) (after_zeros b)) ≡ is_same_number a b
same_number a b true e hb = compared a b (digits_of_number a (sym e)) (digits_of_number b hb) ∙ ap (λ t. t && (number_of a == number_of b)) e
same_number a b false e hb = ap (λ t. t && (number_of a == number_of b)) e
