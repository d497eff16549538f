-- What a token is read as is shorter, or the token itself.
use Rattle.std.proofs.Common.{◌≡◌, ℕ, ◌+◌, ◌<◌, ◌≤◌, Bool, true, false, cond, List, [], ◌∷◌, length, refl, ap, arith, bytes_eq, length-drop}
use Rattle.std.proofs.lemmas.Bool.{and_parts, ltb-true}
use Rattle.std.proofs.lemmas.List.{length-take}
use Rattle.std.proofs.lemmas.Slice.Eq.{bytes_eq-Decides}
use Rattle.std.specs.List.{position_or_len, before_first, after_first}
use Rattle.streetmap_json.specs.NumberText.{is_dot, are_signed_digits, are_zeros, has_zero_fraction, unsigned_zero, whole_text}

record Shortens (s t : List ℕ) : Type 0 where
  less : length t ≤ length s
  same : length s ≤ length t → t ≡ s

unsigned_at : (s : List ℕ) (b : Bool) → bytes_eq s (45 ∷ 48 ∷ []) ≡ b → Shortens s (cond b (48 ∷ []) s)
unsigned_at s false e = record { less = omega arith; same = λ h. refl }
unsigned_at s true e =
    let two : length s ≡ 2 = ap length ((bytes_eq-Decides s (45 ∷ 48 ∷ [])).0 e) in
    record { less = omega arith; same = λ h. absurd (omega arith) }

pub fraction_is_after : (s : List ℕ) → has_zero_fraction s ≡ true → length (before_first is_dot s) < length s
fraction_is_after s h =
    let parts = and_parts (are_signed_digits (before_first is_dot s)) (are_zeros (after_first is_dot s)) h in
    let zeros = and_parts _ _ parts.1 in
    let some : 0 < length (after_first is_dot s) = ltb-true 0 (length (after_first is_dot s)) zeros.0 in
    omega (arith, length-drop (position_or_len is_dot s + 1) s, length-take (position_or_len is_dot s) s)

whole_at : (s : List ℕ) (b : Bool) → has_zero_fraction s ≡ b → Shortens s (unsigned_zero (cond b (before_first is_dot s) s))
whole_at s false e = unsigned_at s (bytes_eq s (45 ∷ 48 ∷ [])) refl
whole_at s true e =
    let before = before_first is_dot s in
    let short = fraction_is_after s e in
    let more = unsigned_at before (bytes_eq before (45 ∷ 48 ∷ [])) refl in
    record { less = omega (arith, more.less); same = λ h. absurd (omega (arith, more.less)) }

pub whole_text_same : (s : List ℕ) → length s ≤ length (whole_text s) → whole_text s ≡ s
unfolding whole_text
whole_text_same s h = (whole_at s (has_zero_fraction s) refl).same h
