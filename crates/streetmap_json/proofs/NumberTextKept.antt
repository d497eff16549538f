-- The text of exact data is left as it is.
use Rattle.std.proofs.Common.{◌≡◌, ℕ, suc, ◌+◌, ◌^◌, ◌<◌, ◌≤◌, ◌/◌, ◌%◌, Bool, true, false, not, cond, ◌&&◌, ◌||◌, eqb, ltb, leb, pos, negsuc, List, [], ◌∷◌, ◌++◌, length, get_or, take, refl, sym, ap, ◌∙◌, arith, append_assoc, append-nil, decimal}
use Rattle.std.proofs.lemmas.Bool.{and_parts, le-leb, leb-true, eqb-true, ltb-true, ltb-false}
use Rattle.std.proofs.lemmas.Bool.Decides.{nat_tests}
use Rattle.std.proofs.lemmas.Fmt.{decimal_is_IsNumeral, first_decimal}
use Rattle.std.proofs.lemmas.List.{drop_all}
use Rattle.std.proofs.lemmas.List.Concat.{flat_map-cons}
use Rattle.std.proofs.lemmas.Str.Parse.{digit_from_value}
use Rattle.std.specs.Char.{digit_char, is_ascii_digit}
use Rattle.std.specs.List.{list_all, position_or_len, before_first, after_first, onto_first}
use Rattle.std.specs.Str.Parse.{AllDigits}
use Rattle.json.specs.Token.{Token}
use Rattle.json.specs.Print.{token_text, escape_byte, escape_letter, escape, quoted}
use Rattle.serde_json.specs.Data.{Num, unsigned, negative, float, Data, null, boolean, number, string, array, object, Items, no_items, item, Members, no_members, member}
use Rattle.serde_json.specs.Written.{number_text, compact_text, comma_if, items_text, members_text}
use Rattle.streetmap_json.specs.ExactData.{is_whole, is_before, is_exact, are_exact, are_exact_members}
use Rattle.streetmap_json.specs.NumberText.{is_dot, are_signed_digits, without_fraction, whole_text, is_in_number, starts_number, outside, within, tokens_from, with_whole_numbers}
use Rattle.streetmap_json.proofs.NumberTextTokens.{onto_all, onto_all-cons, no_quote, take-one_more}

-- a text is left as it is before that rest
abbrev Kept : List ℕ → List ℕ → Type 0
Kept s rest = with_whole_numbers (s ++ rest) ≡ s ++ with_whole_numbers rest

then_kept : (s t rest : List ℕ) → Kept s (t ++ rest) → Kept t rest → Kept (s ++ t) rest
then_kept s t rest p q = rw (append_assoc s t rest, p, q, append_assoc s t (with_whole_numbers rest)) refl

-- a text that is one token, and that stays
token_kept : (s rest : List ℕ) → tokens_from outside (s ++ rest) ≡ s ∷ tokens_from outside rest → whole_text s ≡ s → Kept s rest
token_kept s rest e same = rw (e, same) refl

-- ---- tokens that are read as they are

and_false : (b : Bool) → (b && false) ≡ false
and_false true = refl
and_false false = refl

no_dots : (s : List ℕ) → list_all (λ b. not (is_dot b)) s ≡ true → position_or_len is_dot s ≡ length s
no_dots [] h = refl
no_dots (b ∷ s) h =
    let p = and_parts (not (is_dot b)) (list_all (λ b. not (is_dot b)) s) h in
    rw (p.0, no_dots s p.1) (omega arith)

-- without a point nothing is left out
without_dot : (s : List ℕ) → position_or_len is_dot s ≡ length s → without_fraction s ≡ s
without_dot s e =
    let none : after_first is_dot s ≡ [] = rw e (drop_all (length s + 1) s (omega arith)) in
    rw (none, and_false (are_signed_digits (before_first is_dot s))) refl

-- ---- other bytes

other_stays_at : (b : ℕ) (t : Bool) → is_dot b ≡ t → is_in_number b ≡ false → whole_text (b ∷ []) ≡ b ∷ []
unfolding whole_text
other_stays_at b true e h = let x : true ≡ false = ap is_in_number (sym (eqb-true b 46 e)) ∙ h in absurd cc
other_stays_at b false e h =
    let one : position_or_len is_dot (b ∷ []) ≡ 1 = rw e refl in
    let same : without_fraction (b ∷ []) ≡ b ∷ [] = without_dot (b ∷ []) one in
    rw same (not_zero (eqb b 45))
  where
    not_zero : (t : Bool) → cond (t && false) (48 ∷ []) (b ∷ []) ≡ b ∷ []
    not_zero true = refl
    not_zero false = refl

pub other_kept : (b : ℕ) (rest : List ℕ) → is_in_number b ≡ false → eqb b 34 ≡ false → with_whole_numbers (b ∷ rest) ≡ b ∷ with_whole_numbers rest
unfolding tokens_from
other_kept b rest p q = token_kept (b ∷ []) rest (rw (q, p) refl) (other_stays_at b (is_dot b) refl p)

-- ---- strings

-- within a string these bytes stay within
abbrev StaysWithin : List ℕ → Type 0
StaysWithin s = (rest : List ℕ) → tokens_from within (s ++ rest) ≡ onto_all s (tokens_from within rest)

pub passes : (x : ℕ) (rest : List ℕ) → eqb x 34 ≡ false → eqb x 92 ≡ false → tokens_from within (x ∷ rest) ≡ onto_first x (tokens_from within rest)
unfolding tokens_from
passes x rest p q = rw (p, q) refl

not_escaped_at : (x rest : ℕ) (a b : Bool) → eqb x 34 ≡ a → eqb x 92 ≡ b → ltb 0 (cond (a || b) x rest) ≡ false → (eqb x 34 ≡ false) × (eqb x 92 ≡ false)
not_escaped_at x rest true b p q h = absurd (let is : x ≡ 34 = eqb-true x 34 p in let low : x ≤ 0 = ltb-false 0 x h in omega (arith, is, low))
not_escaped_at x rest false true p q h = absurd (let is : x ≡ 92 = eqb-true x 92 q in let low : x ≤ 0 = ltb-false 0 x h in omega (arith, is, low))
not_escaped_at x rest false false p q h = (p, q)

not_escaped : (x : ℕ) → ltb 0 (escape_letter x) ≡ false → (eqb x 34 ≡ false) × (eqb x 92 ≡ false)
not_escaped x h = not_escaped_at x _ (eqb x 34) (eqb x 92) refl refl h

digit_free_at : (d : ℕ) (a : Bool) → ltb d 10 ≡ a → (eqb (cond a (48 + d) (87 + d)) 34 ≡ false) × (eqb (cond a (48 + d) (87 + d)) 92 ≡ false)
digit_free_at d true h = let lt : d < 10 = ltb-true d 10 h in (grind (arith, nat_tests), grind (arith, nat_tests))
digit_free_at d false h = let le : 10 ≤ d = ltb-false d 10 h in (grind (arith, nat_tests), grind (arith, nat_tests))

digit_free : (d : ℕ) → (eqb (digit_char d) 34 ≡ false) × (eqb (digit_char d) 92 ≡ false)
digit_free d = digit_free_at d (ltb d 10) refl

abbrev hex_escape : ℕ → List ℕ
hex_escape x = 92 ∷ 117 ∷ 48 ∷ 48 ∷ digit_char (x / 16) ∷ digit_char (x % 16) ∷ []

escape_stays : (x : ℕ) (a b : Bool) → ltb 0 (escape_letter x) ≡ a → StaysWithin (cond a (92 ∷ escape_letter x ∷ []) (cond b (hex_escape x) (x ∷ [])))
unfolding tokens_from
escape_stays x true b h rest = refl
escape_stays x false true h rest =
    let p = digit_free (x / 16) in
    let q = digit_free (x % 16) in
    ap (λ (w : List (List ℕ)). onto_first 92 (onto_first 117 (onto_first 48 (onto_first 48 w))))
    (passes (digit_char (x / 16)) (digit_char (x % 16) ∷ rest) p.0 p.1 ∙ ap (onto_first (digit_char (x / 16))) (passes (digit_char (x % 16)) rest q.0 q.1))
escape_stays x false false h rest = let p = not_escaped x h in passes x rest p.0 p.1

byte_stays : (x : ℕ) → StaysWithin (escape_byte x)
unfolding escape_byte
byte_stays x rest = escape_stays x (ltb 0 (escape_letter x)) (ltb x 32) refl rest

onto_all-append : (s t : List ℕ) (ts : List (List ℕ)) → onto_all (s ++ t) ts ≡ onto_all s (onto_all t ts)
onto_all-append [] t ts = refl
onto_all-append (x ∷ s) t ts = ap (onto_first x) (onto_all-append s t ts)

text_stays : (s : List ℕ) → StaysWithin (escape s)
text_stays [] rest = refl
text_stays (x ∷ s) rest =
    rw (flat_map-cons escape_byte x s, append_assoc (escape_byte x) (escape s) rest, byte_stays x (escape s ++ rest), text_stays s rest, onto_all-append (escape_byte x) (escape s) (tokens_from within rest)) refl

string_token : (s rest : List ℕ) → tokens_from outside (quoted s ++ rest) ≡ quoted s ∷ tokens_from outside rest
unfolding tokens_from
string_token s rest =
    ap (onto_first 34) (ap (tokens_from within) (append_assoc (escape s) (34 ∷ []) rest) ∙ text_stays s (34 ∷ rest) ∙ onto_all-cons (escape s) (34 ∷ []) (tokens_from outside rest))

pub quote_stays : (s : List ℕ) → whole_text (34 ∷ s) ≡ 34 ∷ s
unfolding whole_text
quote_stays s =
    let before = 34 ∷ take (position_or_len is_dot s) s in
    let no_number : are_signed_digits before ≡ false = and_false (ltb 0 (length before)) in
    rw (take-one_more (position_or_len is_dot s) 34 s, no_number) refl

quoted_kept : (s rest : List ℕ) → Kept (quoted s) rest
quoted_kept s rest = token_kept (quoted s) rest (string_token s rest) (quote_stays (escape s ++ 34 ∷ []))

-- ---- runs of number bytes

pub run_token : (b : ℕ) (s rest : List ℕ) → list_all is_in_number (b ∷ s) ≡ true → starts_number rest ≡ false → tokens_from outside (b ∷ s ++ rest) ≡ (b ∷ s) ∷ tokens_from outside rest
unfolding tokens_from
run_token b [] rest h stop = let p = and_parts (is_in_number b) true h in rw (no_quote b p.0, p.0, stop) refl
run_token b (d ∷ s) rest h stop =
    let p = and_parts (is_in_number b) (list_all is_in_number (d ∷ s)) h in
    let q = and_parts (is_in_number d) (list_all is_in_number s) p.1 in
    rw (no_quote b p.0, p.0, q.0) (ap (onto_first b) (run_token d s rest p.1 stop))

run_kept : (b : ℕ) (s rest : List ℕ) → list_all is_in_number (b ∷ s) ≡ true → whole_text (b ∷ s) ≡ b ∷ s → starts_number rest ≡ false → Kept (b ∷ s) rest
run_kept b s rest h same stop = token_kept (b ∷ s) rest (run_token b s rest h stop) same

-- ---- whole numbers

digit_at : (b : ℕ) → 48 ≤ b → b ≤ 57 → is_ascii_digit b ≡ true
digit_at b low high = rw (le-leb 48 b low, le-leb b 57 high) refl

digits_all : (s : List ℕ) → AllDigits 10 s → list_all is_ascii_digit s ≡ true
digits_all [] h = refl
digits_all (b ∷ s) h = let r = digit_from_value b h.0 in rw (digit_at b r.0 r.1, digits_all s h.1) refl

digit_low : (b : ℕ) → is_ascii_digit b ≡ true → 48 ≤ b
digit_low b h = leb-true 48 b (and_parts (leb 48 b) (leb b 57) h).0

not_dot : (b : ℕ) → is_ascii_digit b ≡ true → not (is_dot b) ≡ true
not_dot b h = let low = digit_low b h in let no : eqb b 46 ≡ false = grind (arith, nat_tests) in rw no refl

not_minus : (b : ℕ) → is_ascii_digit b ≡ true → eqb b 45 ≡ false
not_minus b h = let low = digit_low b h in grind (arith, nat_tests)

pub dotless : (s : List ℕ) → list_all is_ascii_digit s ≡ true → list_all (λ b. not (is_dot b)) s ≡ true
dotless [] h = refl
dotless (b ∷ s) h = let p = and_parts (is_ascii_digit b) (list_all is_ascii_digit s) h in rw (not_dot b p.0, dotless s p.1) refl

run_of_digits : (s : List ℕ) → list_all is_ascii_digit s ≡ true → list_all is_in_number s ≡ true
run_of_digits [] h = refl
run_of_digits (b ∷ s) h = let p = and_parts (is_ascii_digit b) (list_all is_ascii_digit s) h in rw (p.0, run_of_digits s p.1) refl

-- the text of a whole number, which stays
record Stays (s : List ℕ) : Type 0 where
  some : 0 < length s
  run : list_all is_in_number s ≡ true
  same : whole_text s ≡ s

digits_stay : (b : ℕ) (s : List ℕ) → list_all is_ascii_digit (b ∷ s) ≡ true → Stays (b ∷ s)
unfolding whole_text
digits_stay b s h =
    let p = and_parts (is_ascii_digit b) (list_all is_ascii_digit s) h in
    let plain : without_fraction (b ∷ s) ≡ b ∷ s = without_dot (b ∷ s) (no_dots (b ∷ s) (dotless (b ∷ s) h)) in
    record { some = omega arith; run = run_of_digits (b ∷ s) h; same = rw (plain, not_minus b p.0) refl }

minus_digits_stay : (b : ℕ) (s : List ℕ) → list_all is_ascii_digit (b ∷ s) ≡ true → 48 < b → Stays (45 ∷ b ∷ s)
unfolding whole_text
minus_digits_stay b s h low =
    let not_zero : eqb b 48 ≡ false = grind (arith, nat_tests) in
    let plain : without_fraction (45 ∷ b ∷ s) ≡ 45 ∷ b ∷ s = without_dot (45 ∷ b ∷ s) (no_dots (45 ∷ b ∷ s) (dotless (b ∷ s) h)) in
    record { some = omega arith; run = run_of_digits (b ∷ s) h; same = rw (plain, not_zero) refl }

stays_at : (s : List ℕ) → 0 < length s → list_all is_ascii_digit s ≡ true → Stays s
stays_at [] low h = absurd (omega arith)
stays_at (b ∷ s) low h = digits_stay b s h

minus_stays_at : (s : List ℕ) → 0 < length s → 48 < get_or s 0 0 → list_all is_ascii_digit s ≡ true → Stays (45 ∷ s)
minus_stays_at [] low first h = absurd (omega arith)
minus_stays_at (b ∷ s) low first h = minus_digits_stay b s h first

decimal_stays : (n : ℕ) → n < 2 ^ 64 → Stays (decimal n)
decimal_stays n h = let b = decimal_is_IsNumeral n h in stays_at (decimal n) b.0.0 (digits_all (decimal n) b.0.1)

minus_stays : (n : ℕ) → suc n < 2 ^ 64 → Stays (45 ∷ decimal (suc n))
minus_stays n h =
    let b = decimal_is_IsNumeral (suc n) h in
    let some : 0 < suc n = omega arith in
    minus_stays_at (decimal (suc n)) b.0.0 (first_decimal (suc n) some h) (digits_all (decimal (suc n)) b.0.1)

number_stays : (n : Num) → is_whole n ≡ true → Stays (number_text n)
number_stays (unsigned n) h = decimal_stays n (ltb-true n (2 ^ 64) h)
number_stays (negative (pos n)) h = absurd cc
number_stays (negative (negsuc n)) h = let low = ltb-true n (2 ^ 63) h in minus_stays n (omega (arith, low))
number_stays (float x) h = absurd cc

stays_kept : (s rest : List ℕ) → Stays s → starts_number rest ≡ false → Kept s rest
stays_kept [] rest h stop = let some = h.some in absurd (omega (arith, some))
stays_kept (b ∷ s) rest h stop = run_kept b s rest h.run h.same stop

-- ---- values

comma_kept : (later : Bool) (rest : List ℕ) → Kept (comma_if later) rest
comma_kept true rest = other_kept 44 rest refl refl
comma_kept false rest = refl

-- the last letter of `true` and `false` is a number byte
letter_e : (rest : List ℕ) → starts_number rest ≡ false → Kept (101 ∷ []) rest
unfolding whole_text
letter_e rest stop = run_kept 101 [] rest refl refl stop

literal_kept : (b : Bool) (rest : List ℕ) → starts_number rest ≡ false → Kept (token_text (Token.boolean b)) rest
literal_kept true rest h =
    other_kept 116 (114 ∷ 117 ∷ 101 ∷ rest) refl refl ∙ ap (λ (w : List ℕ). 116 ∷ w)
    (other_kept 114 (117 ∷ 101 ∷ rest) refl refl ∙ ap (λ (w : List ℕ). 114 ∷ w)
    (other_kept 117 (101 ∷ rest) refl refl ∙ ap (λ (w : List ℕ). 117 ∷ w) (letter_e rest h)))
literal_kept false rest h =
    other_kept 102 (97 ∷ 108 ∷ 115 ∷ 101 ∷ rest) refl refl ∙ ap (λ (w : List ℕ). 102 ∷ w)
    (other_kept 97 (108 ∷ 115 ∷ 101 ∷ rest) refl refl ∙ ap (λ (w : List ℕ). 97 ∷ w)
    (other_kept 108 (115 ∷ 101 ∷ rest) refl refl ∙ ap (λ (w : List ℕ). 108 ∷ w)
    (other_kept 115 (101 ∷ rest) refl refl ∙ ap (λ (w : List ℕ). 115 ∷ w) (letter_e rest h))))

null_kept : (rest : List ℕ) → Kept (token_text Token.null) rest
null_kept rest =
    other_kept 110 (117 ∷ 108 ∷ 108 ∷ rest) refl refl ∙ ap (λ (w : List ℕ). 110 ∷ w)
    (other_kept 117 (108 ∷ 108 ∷ rest) refl refl ∙ ap (λ (w : List ℕ). 117 ∷ w)
    (other_kept 108 (108 ∷ rest) refl refl ∙ ap (λ (w : List ℕ). 108 ∷ w) (other_kept 108 rest refl refl)))

-- what follows an item, or a member, is a comma or a bracket
items_stop : (ds : Items) (rest : List ℕ) → starts_number (items_text true ds ++ rest) ≡ false
items_stop no_items rest = refl
items_stop (item d ds) rest = refl

members_stop : (ms : Members) (rest : List ℕ) → starts_number (members_text true ms ++ rest) ≡ false
members_stop no_members rest = refl
members_stop (member k d ms) rest = refl

mutual
  value_kept : (d : Data) (rest : List ℕ) → is_exact d ≡ true → starts_number rest ≡ false → Kept (compact_text d) rest
  value_kept null rest h stop = null_kept rest
  value_kept (boolean b) rest h stop = literal_kept b rest stop
  value_kept (number n) rest h stop = stays_kept (number_text n) rest (number_stays n h) stop
  value_kept (string s) rest h stop = quoted_kept s rest
  value_kept (array ds) rest h stop = other_kept 91 (items_text false ds ++ rest) refl refl ∙ ap (λ (w : List ℕ). 91 ∷ w) (items_kept false ds rest h)
  value_kept (object ms) rest h stop = other_kept 123 (members_text false ms ++ rest) refl refl ∙ ap (λ (w : List ℕ). 123 ∷ w) (members_kept false ms rest h)

  items_kept : (later : Bool) (ds : Items) (rest : List ℕ) → are_exact ds ≡ true → Kept (items_text later ds) rest
  items_kept later no_items rest h = other_kept 93 rest refl refl
  items_kept later (item d ds) rest h =
      let p = and_parts (is_exact d) (are_exact ds) h in
      then_kept (comma_if later) (compact_text d ++ items_text true ds) rest (comma_kept later _)
      (then_kept (compact_text d) (items_text true ds) rest (value_kept d _ p.0 (items_stop ds rest)) (items_kept true ds rest p.1))

  members_kept : (later : Bool) (ms : Members) (rest : List ℕ) → are_exact_members ms ≡ true → Kept (members_text later ms) rest
  members_kept later no_members rest h = other_kept 125 rest refl refl
  members_kept later (member k d ms) rest h =
      let p = and_parts _ (is_before k ms && (is_exact d && are_exact_members ms)) h in
      let q = and_parts (is_before k ms) (is_exact d && are_exact_members ms) p.1 in
      let r = and_parts (is_exact d) (are_exact_members ms) q.1 in
      then_kept (comma_if later) (quoted k ++ 58 ∷ (compact_text d ++ members_text true ms)) rest (comma_kept later _)
      (then_kept (quoted k) (58 ∷ (compact_text d ++ members_text true ms)) rest (quoted_kept k _)
      (other_kept 58 ((compact_text d ++ members_text true ms) ++ rest) refl refl ∙ ap (λ (w : List ℕ). 58 ∷ w)
      (then_kept (compact_text d) (members_text true ms) rest (value_kept d _ r.0 (members_stop ms rest)) (members_kept true ms rest r.1))))

-- the text of exact data is left as it is
pub text_kept : (d : Data) → is_exact d ≡ true → with_whole_numbers (compact_text d) ≡ compact_text d
unfolding tokens_from
text_kept d h = ap with_whole_numbers (sym (append-nil (compact_text d))) ∙ value_kept d [] h refl ∙ append-nil (compact_text d)
