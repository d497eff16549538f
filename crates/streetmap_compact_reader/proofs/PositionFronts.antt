-- A position at the front of a text, from its parts.
use Rattle.std.proofs.Common.{◌≡◌, ℕ, ℤ, List, [], ◌∷◌, ◌++◌, Option, ap, ◌∙◌, append_assoc}
use Rattle.serde_json.specs.Written.{compact_text}
use Rattle.streetmap_feature_text.specs.Written.{number_data, height_text, position_data}
use Rattle.streetmap_feature_text.proofs.WrittenParts.{position_text_is}

regrouped : (a b c after : List ℕ) → 91 ∷ (a ++ (44 ∷ (b ++ (c ++ 93 ∷ after)))) ≡ (91 ∷ (a ++ (44 ∷ (b ++ (c ++ 93 ∷ []))))) ++ after
regrouped a b c after = simp append_assoc

pub position_front : (x y : ℤ) (z : Option ℤ) (before opened after_x apart after_y after : List ℕ) → before ≡ 91 ∷ opened → opened
    ≡ compact_text (number_data x) ++ after_x → after_x ≡ 44 ∷ apart → apart ≡ compact_text (number_data y) ++ after_y → after_y ≡ height_text z ++ 93 ∷ after
    → before ≡ compact_text (position_data (record { x = x; y = y; z = z })) ++ after
position_front x y z before opened after_x apart after_y after a b c d e =
    a ∙ ap (λ (t : List ℕ). 91 ∷ t) (b ∙ ap (λ (t : List ℕ). compact_text (number_data x) ++ t)
    (c ∙ ap (λ (t : List ℕ). 44 ∷ t) (d ∙ ap (λ (t : List ℕ). compact_text (number_data y) ++ t) e)))
    ∙ regrouped (compact_text (number_data x)) (compact_text (number_data y)) (height_text z) after
    ∙ ap (λ (t : List ℕ). t ++ after) (position_text_is x y z)
