-- The text of a shift.
use Rattle.std.proofs.Common.{◌≡◌, ℕ, ◌+◌, ◌≤◌, not, List, [], ◌∷◌, length, ℤ, refl, ap, subst, ◌∙◌, arith, length-append, length-drop, take_all, take, drop, ◌-◌, Option}
use Rattle.std.proofs.lemmas.List.Sums.{prefix_len-le-length}
use Rattle.std.specs.List.{before_first, after_first, position_or_len}
use Rattle.streetmap_decimal.specs.NumberText.{Means}
use Rattle.streetmap_decimal.specs.Options.{is_comma, ReadsOption, IsShift}

-- no number is empty
never_empty : (m e : ℤ) → Means [] m e → ⊥
never_empty m e h =
    let len = simp length-append at (ap length h.is_text.text_is) in
    omega (arith, len, h.is_text.whole_is.0.0)

empty_text : (text : List ℕ) (m e : ℤ) → text ≡ [] → Means text m e → ⊥
empty_text text m e none h = never_empty m e (subst (λ (t : List ℕ). Means t m e) none h)

empty_after : (text : List ℕ) → position_or_len is_comma text ≡ length text
    → length (after_first is_comma text) ≡ 0
empty_after text e = omega (arith, length-drop (position_or_len is_comma text + 1) text)

nothing : (text : List ℕ) → length text ≡ 0 → text ≡ []
nothing [] e = refl
nothing (b ∷ bs) e = absurd (omega (arith, e))

-- a text without a comma is no shift
pub no_comma : (text : List ℕ) (x y : ℤ) → position_or_len is_comma text ≡ length text
    → IsShift text x y → ⊥
no_comma text x y e h =
    empty_text (after_first is_comma text) h.1.0.0.0 h.1.0.0.1 (nothing _ (empty_after text e))
    h.1.0.1.0.1

pub comma_within : (text : List ℕ) → position_or_len is_comma text ≤ length text
comma_within text = prefix_len-le-length (λ b. not (is_comma b)) text

-- the slices that the code reads
pub before_comma : (text : List ℕ) (n : ℕ) → n ≡ position_or_len is_comma text
    → take n text ≡ before_first is_comma text
before_comma text n e = ap (λ (k : ℕ). take k text) e

pub after_comma : (text : List ℕ) (n : ℕ) → n ≡ position_or_len is_comma text
    → take (length text - (n + 1)) (drop (n + 1) text) ≡ after_first is_comma text
after_comma text n e =
    take_all (length text - (n + 1)) (drop (n + 1) text) (omega (arith, length-drop (n + 1) text))
    ∙ ap (λ (k : ℕ). drop (k + 1) text) e

pub counted : (s t : List ℕ) (o q : Option ℤ) → s ≡ t → o ≡ q → ReadsOption 18 s o
    → ReadsOption 18 t q
counted s t o q e f h = subst (λ (u : List ℕ). ReadsOption 18 u q) e (subst (ReadsOption 18 s) f h)
