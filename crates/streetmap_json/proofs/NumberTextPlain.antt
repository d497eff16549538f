-- A text with no zero that changes stays as it is.
use Rattle.std.proofs.Common.{◌≡◌, ℕ, suc, ◌+◌, ◌-◌, ◌<◌, ◌≤◌, Bool, true, false, ◌&&◌, ◌||◌, eqb, List, [], ◌∷◌, ◌++◌, length, get_or, take, drop, refl, sym, ap, ◌∙◌, arith, append_assoc, bytes_eq, ltb, ⊎_elim, length-drop}
use Rattle.std.proofs.lemmas.Bool.{cases_lt, and_parts, or_parts, eqb-true}
use Rattle.std.proofs.lemmas.List.{drop_more, drop_all, take-append-drop}
use Rattle.std.proofs.Math.Bool.{or-false}
use Rattle.std.proofs.lemmas.Slice.Eq.{bytes_eq-Decides}
use Rattle.std.specs.Char.{is_ascii_digit}
use Rattle.std.specs.List.{list_all, flat_map, onto_first, prefix_len, before_first, after_first}
use Rattle.streetmap_json.specs.NumberText.{is_dot, are_signed_digits, are_zeros, has_zero_fraction, whole_text}
use Rattle.streetmap_json.specs.NumberText.{is_in_number, starts_number, Side, outside, within, escaped, put_before, tokens_from, with_whole_numbers}
use Rattle.streetmap_json.specs.NumberText.{starts_digit, is_changing_zero, may_change}
use Rattle.streetmap_json.proofs.NumberTextTokens.{no_quote, number_first}
use Rattle.streetmap_json.proofs.NumberTextKept.{quote_stays}
use Rattle.streetmap_json.proofs.NumberTextForm.{split_at_dot}

-- ---- the place of such a zero

or_true : (a : Bool) → (a || true) ≡ true
or_true true = refl
or_true false = refl

may_change_after : (b : ℕ) (bs : List ℕ) → may_change (b ∷ bs) ≡ false → may_change bs ≡ false
unfolding may_change
may_change_after b [] h = refl
may_change_after b (c ∷ bs) h = (or_parts (is_changing_zero b c (starts_digit bs)) (may_change (c ∷ bs)) h).1

may_change_before : (b : ℕ) (bs : List ℕ) → may_change bs ≡ true → may_change (b ∷ bs) ≡ true
unfolding may_change
may_change_before b [] h = absurd cc
may_change_before b (c ∷ bs) h = rw h (or_true (is_changing_zero b c (starts_digit bs)))

has_fraction : (w rest : List ℕ) → may_change (w ++ 46 ∷ 48 ∷ rest) ≡ true
unfolding may_change
has_fraction [] rest = refl
has_fraction (b ∷ w) rest = may_change_before b (w ++ 46 ∷ 48 ∷ rest) (has_fraction w rest)

-- a loop over the places of such a zero
pub may_change_more : (text : List ℕ) (i : ℕ) → 2 ≤ i → i < length text
    → may_change (drop (i - 2) text) ≡ (is_changing_zero (get_or text (i - 2) 0) (get_or text (i - 1) 0) (is_ascii_digit (get_or text i 0)) || may_change (drop (i + 1 - 2) text))
unfolding may_change
may_change_more text i low lt =
    let e : i - 2 + 1 ≡ i - 1 = omega arith in
    let f : i - 1 + 1 ≡ i = omega arith in
    let g : i + 1 - 2 ≡ i - 1 = omega arith in
    rw (g, drop_more text (i - 2) 0 (omega arith), e, drop_more text (i - 1) 0 (omega arith), f, drop_more text i 0 lt) refl

pub may_change_last : (text : List ℕ) (i : ℕ) → i + 2 ≡ length text
    → may_change (drop i text) ≡ is_changing_zero (get_or text i 0) (get_or text (i + 1) 0) false
unfolding may_change
may_change_last text i at =
    let e : i + 1 + 1 ≡ i + 2 = omega arith in
    rw (drop_more text i 0 (omega arith), drop_more text (i + 1) 0 (omega arith), e, drop_all (i + 2) text (omega arith)) (or-false _)

pub short_stays : (text : List ℕ) → length text < 2 → may_change text ≡ false
unfolding may_change
short_stays [] lt = refl
short_stays (b ∷ []) lt = refl
short_stays (b ∷ c ∷ text) lt = absurd (omega arith)

pub read_ends : (text : List ℕ) (i : ℕ) → 2 ≤ i → length text ≤ i → (2 ≤ length text → i ≤ length text)
    → may_change (drop (i - 2) text) ≡ may_change (drop (length text - 2) text)
read_ends text i low high at_most = ⊎_elim
    (λ short. short_stays (drop (i - 2) text) (omega (arith, length-drop (i - 2) text)) ∙ sym (short_stays (drop (length text - 2) text) (omega (arith, length-drop (length text - 2) text))))
    (λ long. let is : i ≡ length text = omega (arith, at_most long) in rw is refl)
    (cases_lt (length text) 2)

pub found_more : (found here later : Bool) (r : Bool) → (found || (here || later)) ≡ r → ((found || here) || later) ≡ r
found_more true here later r h = h
found_more false here later r h = h

-- ---- one token

no_digit_at : (a b c d e f : Bool) → (a || b || c || d || e || f) ≡ false → a ≡ false
no_digit_at false b c d e f h = refl
no_digit_at true b c d e f h = absurd cc

no_digit : (rest : List ℕ) → starts_number rest ≡ false → starts_digit rest ≡ false
no_digit [] h = refl
no_digit (b ∷ rest) h = no_digit_at (is_ascii_digit b) (eqb b 43) (eqb b 45) (eqb b 46) (eqb b 101) (eqb b 69) h

has_minus_zero : (rest : List ℕ) → starts_number rest ≡ false → may_change (45 ∷ 48 ∷ rest) ≡ true
unfolding may_change
has_minus_zero rest h = rw (no_digit rest h) refl

minus_zero_is : (s rest : List ℕ) (t : Bool) → bytes_eq s (45 ∷ 48 ∷ []) ≡ t → starts_number rest ≡ false → may_change (s ++ rest) ≡ false → t ≡ false
minus_zero_is s rest false e stop h = refl
minus_zero_is s rest true e stop h =
    let is : s ≡ 45 ∷ 48 ∷ [] = (bytes_eq-Decides s (45 ∷ 48 ∷ [])).0 e in
    let no : may_change (45 ∷ 48 ∷ rest) ≡ false = rw is at h in
    sym (has_minus_zero rest stop) ∙ no

zeros_begin : (w zeros rest : List ℕ) → are_zeros zeros ≡ true → may_change ((w ++ 46 ∷ zeros) ++ rest) ≡ true
zeros_begin w [] rest h = absurd cc
zeros_begin w (b ∷ zeros) rest h =
    let all = and_parts (ltb 0 (length (b ∷ zeros))) (list_all (λ x. eqb x 48) (b ∷ zeros)) h in
    let p = and_parts (eqb b 48) (list_all (λ x. eqb x 48) zeros) all.1 in
    rw (append_assoc w (46 ∷ b ∷ zeros) rest, eqb-true b 48 p.0) (has_fraction w (zeros ++ rest))

no_fraction_at : (s rest : List ℕ) (t : Bool) → has_zero_fraction s ≡ t → may_change (s ++ rest) ≡ false → t ≡ false
no_fraction_at s rest false e h = refl
no_fraction_at s rest true e h =
    let parts = and_parts (are_signed_digits (before_first is_dot s)) (are_zeros (after_first is_dot s)) e in
    let no : may_change ((before_first is_dot s ++ 46 ∷ after_first is_dot s) ++ rest) ≡ false = rw (split_at_dot s e) at h in
    sym (zeros_begin (before_first is_dot s) (after_first is_dot s) rest parts.1) ∙ no

-- a token of a text without such a zero, if no number byte follows it
token_stays : (s rest : List ℕ) → starts_number rest ≡ false → may_change (s ++ rest) ≡ false → whole_text s ≡ s
unfolding whole_text
token_stays s rest stop h =
    rw (no_fraction_at s rest (has_zero_fraction s) refl h, minus_zero_is s rest (bytes_eq s (45 ∷ 48 ∷ [])) refl stop h) refl

-- ---- all tokens

-- what tokens are read as, the first unchanged
abbrev first_kept : List (List ℕ) → List ℕ
first_kept [] = []
first_kept (t ∷ ts) = t ++ flat_map whole_text ts

first_kept-onto : (b : ℕ) (ts : List (List ℕ)) → first_kept (onto_first b ts) ≡ b ∷ first_kept ts
first_kept-onto b [] = refl
first_kept-onto b (t ∷ ts) = refl

quote_kept : (ts : List (List ℕ)) → flat_map whole_text (onto_first 34 ts) ≡ 34 ∷ first_kept ts
quote_kept [] = rw (quote_stays []) refl
quote_kept (t ∷ ts) = rw (quote_stays t) refl

stops_at : (b : ℕ) (text : List ℕ) (t : Bool) → is_in_number b ≡ t → starts_number (drop (prefix_len is_in_number text) text) ≡ false
    → starts_number (drop (prefix_len is_in_number (b ∷ text)) (b ∷ text)) ≡ false
stops_at b text true e later = let one_more : 1 + prefix_len is_in_number text ≡ suc (prefix_len is_in_number text) = omega arith in rw (e, one_more) later
stops_at b text false e later = rw e e

stops : (text : List ℕ) → starts_number (drop (prefix_len is_in_number text) text) ≡ false
stops [] = refl
stops (b ∷ text) = stops_at b text (is_in_number b) refl (stops text)

-- the first token of a text that begins with a number byte stays
number_kept : (text : List ℕ) → 0 < length text → is_in_number (get_or text 0 0) ≡ true → may_change text ≡ false
    → with_whole_numbers text ≡ first_kept (tokens_from outside text)
number_kept text some number h =
    let n = prefix_len is_in_number text in
    let same : whole_text (take n text) ≡ take n text = token_stays (take n text) (drop n text) (stops text) (rw (take-append-drop n text) h) in
    rw (number_first text some number, same) refl

-- ---- the text

-- what is left of the tokens as they are read, on each side
abbrev AsItIs : Side → List ℕ → Type 0
AsItIs outside text = with_whole_numbers text ≡ text
AsItIs within text = first_kept (tokens_from within text) ≡ text
AsItIs escaped text = first_kept (tokens_from escaped text) ≡ text

single_kept : (b : ℕ) (bs : List ℕ) → with_whole_numbers bs ≡ bs → flat_map whole_text ((b ∷ []) ∷ tokens_from outside bs) ≡ b ∷ bs
unfolding may_change
single_kept b bs so_far = rw (token_stays (b ∷ []) [] refl refl, so_far) refl

joined_kept : (b : ℕ) (bs : List ℕ) (t : Bool) → (is_in_number b && starts_number bs) ≡ t → may_change (b ∷ bs) ≡ false → with_whole_numbers bs ≡ bs
    → flat_map whole_text (put_before t b (tokens_from outside bs)) ≡ b ∷ bs
unfolding tokens_from
joined_kept b bs false e h so_far = single_kept b bs so_far
joined_kept b [] true e h so_far = let no : false ≡ true = (and_parts (is_in_number b) false e).1 in absurd cc
joined_kept b (d ∷ bs) true e h so_far =
    let p = and_parts (is_in_number b) (is_in_number d) e in
    let some : 0 < length (d ∷ bs) = omega arith in
    let here : with_whole_numbers (b ∷ d ∷ bs) ≡ first_kept (tokens_from outside (b ∷ d ∷ bs)) = number_kept (b ∷ d ∷ bs) (omega arith) p.0 h in
    let later = number_kept (d ∷ bs) some p.1 (may_change_after b (d ∷ bs) h) in
    let tokens : tokens_from outside (b ∷ d ∷ bs) ≡ onto_first b (tokens_from outside (d ∷ bs)) = rw (no_quote b p.0, p.0, p.1) refl in
    (rw tokens at here) ∙ first_kept-onto b (tokens_from outside (d ∷ bs)) ∙ ap (λ (w : List ℕ). b ∷ w) (sym later ∙ so_far)

outside_is : (b : ℕ) (bs : List ℕ) (t : Bool) → eqb b 34 ≡ t → may_change (b ∷ bs) ≡ false → ((side : Side) → AsItIs side bs) → with_whole_numbers (b ∷ bs) ≡ b ∷ bs
unfolding tokens_from
outside_is b bs true e h so_far = rw (e, eqb-true b 34 e) (quote_kept (tokens_from within bs) ∙ ap (λ (w : List ℕ). 34 ∷ w) (so_far within))
outside_is b bs false e h so_far = rw e (joined_kept b bs (is_in_number b && starts_number bs) refl h (so_far outside))

goes_on : (side : Side) (b : ℕ) (bs : List ℕ) → first_kept (tokens_from side bs) ≡ bs → first_kept (onto_first b (tokens_from side bs)) ≡ b ∷ bs
goes_on side b bs so_far = first_kept-onto b (tokens_from side bs) ∙ ap (λ (w : List ℕ). b ∷ w) so_far

within_is : (b : ℕ) (bs : List ℕ) (t u : Bool) → eqb b 34 ≡ t → eqb b 92 ≡ u → ((side : Side) → AsItIs side bs) → first_kept (tokens_from within (b ∷ bs)) ≡ b ∷ bs
unfolding tokens_from
within_is b bs true u e f so_far = rw (e, eqb-true b 34 e) (ap (λ (w : List ℕ). 34 ∷ w) (so_far outside))
within_is b bs false true e f so_far = rw (e, f) (goes_on escaped b bs (so_far escaped))
within_is b bs false false e f so_far = rw (e, f) (goes_on within b bs (so_far within))

as_it_is : (text : List ℕ) → may_change text ≡ false → (side : Side) → AsItIs side text
unfolding tokens_from
as_it_is [] h outside = refl
as_it_is [] h within = refl
as_it_is [] h escaped = refl
as_it_is (b ∷ bs) h outside = outside_is b bs (eqb b 34) refl h (as_it_is bs (may_change_after b bs h))
as_it_is (b ∷ bs) h within = within_is b bs (eqb b 34) (eqb b 92) refl refl (as_it_is bs (may_change_after b bs h))
as_it_is (b ∷ bs) h escaped = goes_on within b bs (as_it_is bs (may_change_after b bs h) within)

pub text_stays : (text : List ℕ) → may_change text ≡ false → with_whole_numbers text ≡ text
text_stays text h = as_it_is text h outside
