-- The text of a batch has no control characters of ASCII.
use Rattle.std.proofs.Common.{◌≡◌, ℕ, suc, ◌+◌, ◌^◌, ◌<◌, ◌≤◌, ◌/◌, ◌%◌, Bool, true, false}
use Rattle.std.proofs.Common.{◌&&◌, cond, IsTrue, All, List, [], ◌∷◌, ◌++◌, pos}
use Rattle.std.proofs.Common.{negsuc, refl, arith, decimal, nat_le}
use Rattle.std.specs.Prelude.{nat_lt}
use Rattle.std.specs.List.{list_all}
use Rattle.std.specs.Char.{digit_char}
use Rattle.std.proofs.lemmas.Bool.{and_parts, ltb-true, le-leb, leb-true}
use Rattle.std.proofs.lemmas.Bool.Decides.{nat_tests}
use Rattle.std.proofs.lemmas.Fmt.{decimal_by_steps}
use Rattle.std.proofs.lemmas.List.Elements.{All-nil, All-cons}
use Rattle.json.specs.Token.{Token}
use Rattle.json.specs.Print.{escape_letter, escape_byte, escape, quoted, token_text}
use Rattle.serde_json.specs.Data.{Num, unsigned, negative, float, Data, null, boolean, number}
use Rattle.serde_json.specs.Data.{string, array, object, Items, no_items, item, Members, no_members}
use Rattle.serde_json.specs.Data.{member}
use Rattle.serde_json.specs.Written.{number_text, compact_text, comma_if, items_text, members_text}
use Rattle.streetmap_json.specs.ExactData.{is_whole, is_before, is_exact, are_exact}
use Rattle.streetmap_json.specs.ExactData.{are_exact_members}
use Rattle.std.specs.Str.{is_utf8}
use Rattle.streetmap_batch.specs.BatchText.{batch_data, batch_text}
use Rattle.streetmap_batch.specs.BatchValue.{BatchValue}
use Rattle.streetmap_batch.specs.BatchFacts.{IsSoundBatch}
use Rattle.streetmap_replay.proofs.TextAgain.{exact_batch}

-- no byte below a space
abbrev pub is_printed : List ℕ → Bool
is_printed bs = list_all (λ b. nat_le 32 b) bs

joins : (xs ys : List ℕ) → IsTrue (is_printed xs) → IsTrue (is_printed ys) →
    IsTrue (is_printed (xs ++ ys))
joins [] ys h k = k
joins (x ∷ xs) ys h k = let p = and_parts (nat_le 32 x) (is_printed xs) h in
    rw (p.0, joins xs ys p.1 k) refl

-- ---- strings

low_digit : (n : ℕ) → n < 16 → nat_le 32 (digit_char n) ≡ true
low_digit n h = grind (arith, nat_tests)

sixteen : (n : ℕ) → n < 32 → n / 16 < 16
sixteen n h = omega arith

chosen : (b : Bool) (xs ys : List ℕ) → (b ≡ true → IsTrue (is_printed xs)) →
    (b ≡ false → IsTrue (is_printed ys)) → IsTrue (is_printed (cond b xs ys))
chosen true xs ys h k = h refl
chosen false xs ys h k = k refl

letter_printed : (x : ℕ) → nat_lt 0 (escape_letter x) ≡ true → nat_le 32 (escape_letter x) ≡ true
letter_printed x h = grind (arith, nat_tests)

one_printed : (x : ℕ) → nat_le 32 x ≡ true → IsTrue (is_printed (x ∷ []))
one_printed x h = rw h refl

escape_short : (x : ℕ) → nat_le 32 x ≡ true → IsTrue (is_printed (92 ∷ x ∷ []))
escape_short x h = rw h refl

escape_long : (x y : ℕ) → nat_le 32 x ≡ true → nat_le 32 y ≡ true →
    IsTrue (is_printed (92 ∷ 117 ∷ 48 ∷ 48 ∷ x ∷ y ∷ []))
escape_long x y h k = rw (h, k) refl

not_low : (x : ℕ) → nat_lt x 32 ≡ false → nat_le 32 x ≡ true
not_low x h = grind (arith, nat_tests)

byte_printed : (x : ℕ) → IsTrue (is_printed (escape_byte x))
unfolding escape_byte
byte_printed x =
    chosen (nat_lt 0 (escape_letter x)) _ _
    (λ h. escape_short (escape_letter x) (letter_printed x h))
    (λ none. chosen (nat_lt x 32) _ _
    (λ h. let low : x < 32 = ltb-true x 32 h in
    escape_long (digit_char (x / 16)) (digit_char (x % 16)) (low_digit (x / 16) (sixteen x low))
    (low_digit (x % 16) (omega arith)))
    (λ h. one_printed x (not_low x h)))

escape_printed : (s : List ℕ) → IsTrue (is_printed (escape s))
escape_printed [] = refl
escape_printed (x ∷ s) = joins (escape_byte x) (escape s) (byte_printed x) (escape_printed s)

quoted_printed : (s : List ℕ) → IsTrue (is_printed (quoted s))
quoted_printed s = joins (34 ∷ escape s) (34 ∷ []) (escape_printed s) refl

-- ---- numbers

pub decimal_printed : (n : ℕ) → n < 2 ^ 64 → IsTrue (is_printed (decimal n))
decimal_printed n small =
    decimal_by_steps (λ m ds. IsTrue (is_printed ds)) (λ m h. one m)
    (λ m ds h more. joins ds ((48 + m % 10) ∷ []) more (one (m % 10))) n small where
      one : (m : ℕ) → IsTrue (is_printed ((48 + m) ∷ []))
      one m = one_printed (48 + m) (le-leb 32 (48 + m) (omega arith))

number_printed : (n : Num) → is_whole n ≡ true → IsTrue (is_printed (number_text n))
number_printed (unsigned n) h = decimal_printed n (ltb-true n (2 ^ 64) h)
number_printed (negative (pos n)) h = absurd cc
number_printed (negative (negsuc n)) h = let low =
    ltb-true n (2 ^ 63) h in decimal_printed (suc n) (omega (arith, low))
number_printed (float x) h = absurd cc

-- ---- values

comma_printed : (later : Bool) → IsTrue (is_printed (comma_if later))
comma_printed true = refl
comma_printed false = refl

boolean_printed : (b : Bool) → IsTrue (is_printed (token_text (Token.boolean b)))
boolean_printed true = refl
boolean_printed false = refl

mutual
  value_printed : (d : Data) → is_exact d ≡ true → IsTrue (is_printed (compact_text d))
  value_printed null h = refl
  value_printed (boolean b) h = boolean_printed b
  value_printed (number n) h = number_printed n h
  value_printed (string s) h = quoted_printed s
  value_printed (array ds) h = items_printed false ds h
  value_printed (object ms) h = members_printed false ms h

  items_printed : (later : Bool) (ds : Items) → are_exact ds ≡ true →
      IsTrue (is_printed (items_text later ds))
  items_printed later no_items h = refl
  items_printed later (item d ds) h =
      let p = and_parts (is_exact d) (are_exact ds) h in
      joins (comma_if later) (compact_text d ++ items_text true ds) (comma_printed later)
      (joins (compact_text d) (items_text true ds) (value_printed d p.0)
      (items_printed true ds p.1))

  members_printed : (later : Bool) (ms : Members) → are_exact_members ms ≡ true →
      IsTrue (is_printed (members_text later ms))
  members_printed later no_members h = refl
  members_printed later (member k d ms) h =
      let p = and_parts (is_utf8 k) (is_before k ms && (is_exact d && are_exact_members ms)) h in
      let q = and_parts (is_before k ms) (is_exact d && are_exact_members ms) p.1 in
      let r = and_parts (is_exact d) (are_exact_members ms) q.1 in
      let rest = compact_text d ++ members_text true ms in
      joins (comma_if later) (quoted k ++ 58 ∷ rest) (comma_printed later)
      (joins (quoted k) (58 ∷ rest) (quoted_printed k)
      (joins (compact_text d) (members_text true ms) (value_printed d r.0)
      (members_printed true ms r.1)))

pub text_printed : (b : BatchValue) → IsSoundBatch b → IsTrue (is_printed (batch_text b))
unfolding batch_text
text_printed b h = value_printed (batch_data b) (exact_batch b h)

-- ---- bytes

pub each_printed : (bs : List ℕ) → IsTrue (is_printed bs) → All (λ b. 32 ≤ b) bs
each_printed [] h = All-nil (λ b. 32 ≤ b)
each_printed (b ∷ bs) h =
    let p = and_parts (nat_le 32 b) (is_printed bs) h in
    All-cons (λ b. 32 ≤ b) b bs (leb-true 32 b p.0) (each_printed bs p.1)
