-- A number text by its form: digits, a point and zeros.
use Rattle.std.proofs.Common.{◌≡◌, ℕ, ◌+◌, ◌<◌, Bool, true, false, not, eqb, List, [], ◌∷◌, ◌++◌, length, get_or, drop, refl, ap, ◌∙◌, arith}
use Rattle.std.proofs.lemmas.Bool.{and_parts, eqb-true}
use Rattle.std.proofs.lemmas.List.{take_at, drop_at, drop-drop, length-take}
use Rattle.std.proofs.lemmas.List.Sums.{split_at_first, passes_at_first}
use Rattle.std.specs.Char.{is_ascii_digit}
use Rattle.std.specs.List.{list_all, position_or_len, before_first, after_first}
use Rattle.streetmap_json.specs.NumberText.{is_dot, are_digits, are_signed_digits, are_zeros, has_zero_fraction, without_fraction, unsigned_zero, whole_text}
use Rattle.streetmap_json.proofs.NumberTextKept.{dotless}
use Rattle.streetmap_json.proofs.NumberTextWhole.{fraction_is_after}

-- ---- the form is found

digits_dotless : (w : List ℕ) → are_digits w ≡ true → list_all (λ b. not (is_dot b)) w ≡ true
digits_dotless w h = dotless w (and_parts _ (list_all is_ascii_digit w) h).1

signed_at : (b : ℕ) (w : List ℕ) (t : Bool) → eqb b 45 ≡ t → are_signed_digits (b ∷ w) ≡ true → list_all (λ b. not (is_dot b)) (b ∷ w) ≡ true
signed_at b w true e h =
    let digits : are_digits w ≡ true = rw e at h in
    rw (eqb-true b 45 e) (digits_dotless w digits)
signed_at b w false e h =
    let digits : are_digits (b ∷ w) ≡ true = rw e at h in
    digits_dotless (b ∷ w) digits

signed_dotless : (w : List ℕ) → are_signed_digits w ≡ true → list_all (λ b. not (is_dot b)) w ≡ true
signed_dotless [] h = refl
signed_dotless (b ∷ w) h = signed_at b w (eqb b 45) refl h

dot_is_at : (w zeros : List ℕ) → list_all (λ b. not (is_dot b)) w ≡ true → position_or_len is_dot (w ++ 46 ∷ zeros) ≡ length w
dot_is_at [] zeros h = refl
dot_is_at (b ∷ w) zeros h =
    let p = and_parts (not (is_dot b)) (list_all (λ b. not (is_dot b)) w) h in
    rw (p.0, dot_is_at w zeros p.1) (omega arith)

drop_after : (w zeros : List ℕ) → drop (length w + 1) (w ++ 46 ∷ zeros) ≡ zeros
drop_after w zeros = rw (← drop-drop 1 (length w) (w ++ 46 ∷ zeros), drop_at w (46 ∷ zeros) (length w) refl) refl

pub whole_text-fraction : (whole zeros : List ℕ) → are_signed_digits whole ≡ true → are_zeros zeros ≡ true → whole_text (whole ++ 46 ∷ zeros) ≡ unsigned_zero whole
unfolding whole_text
whole_text-fraction whole zeros digits zero =
    let s = whole ++ 46 ∷ zeros in
    let at : position_or_len is_dot s ≡ length whole = dot_is_at whole zeros (signed_dotless whole digits) in
    let before : before_first is_dot s ≡ whole = rw at (take_at whole (46 ∷ zeros) (length whole) refl) in
    let following : drop (length whole + 1) s ≡ zeros = drop_after whole zeros in
    let after : after_first is_dot s ≡ zeros = rw at following in
    rw (before, after, digits, zero) refl

-- ---- and nothing else is

-- a text of that form is what comes before its point, the point and zeros
pub split_at_dot : (s : List ℕ) → has_zero_fraction s ≡ true → s ≡ before_first is_dot s ++ 46 ∷ after_first is_dot s
split_at_dot s h =
    let short = fraction_is_after s h in
    let inside : position_or_len is_dot s < length s = omega (arith, length-take (position_or_len is_dot s) s) in
    let dot : get_or s (position_or_len is_dot s) 0 ≡ 46 = eqb-true _ 46 (passes_at_first is_dot s 0 inside) in
    split_at_first is_dot s 0 inside ∙ ap (λ (b : ℕ). before_first is_dot s ++ b ∷ after_first is_dot s) dot

find_at : (s : List ℕ) (t : Bool) → has_zero_fraction s ≡ t
    → ((whole zeros : List ℕ) → s ≡ whole ++ 46 ∷ zeros → are_signed_digits whole ≡ true → are_zeros zeros ≡ true → ⊥) → without_fraction s ≡ s
find_at s false e other = rw e refl
find_at s true e other =
    let parts = and_parts (are_signed_digits (before_first is_dot s)) (are_zeros (after_first is_dot s)) e in
    absurd (other (before_first is_dot s) (after_first is_dot s) (split_at_dot s e) parts.0 parts.1)

pub whole_text-other : (s : List ℕ) → ((whole zeros : List ℕ) → s ≡ whole ++ 46 ∷ zeros → are_signed_digits whole ≡ true → are_zeros zeros ≡ true → ⊥) → whole_text s ≡ unsigned_zero s
unfolding whole_text
whole_text-other s other = ap unsigned_zero (find_at s (has_zero_fraction s) refl other)
