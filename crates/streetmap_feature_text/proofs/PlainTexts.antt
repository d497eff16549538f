-- Texts that appear in quotes unescaped.
use Rattle.std.proofs.Common.{◌≡◌, ℕ, List, [], ◌∷◌, ◌++◌, true, ap, ap₂, refl}
use Rattle.std.specs.List.{list_all}
use Rattle.std.proofs.lemmas.Bool.{and_parts, not-true, eqb-false, leb-true}
use Rattle.json.specs.Ascii as ascii
use Rattle.json.specs.Print.{escape}
use Rattle.json.proofs.Printed.Strings.{escape_byte_plain}
use Rattle.serde_json.specs.Data.{string}
use Rattle.serde_json.specs.Written.{compact_text}
use Rattle.streetmap_feature_text.specs.Plain.{is_plain}

unescaped : (text : List ℕ) → list_all is_plain text ≡ true → escape text ≡ text
unescaped [] plain = refl
unescaped (b ∷ text) plain =
    let parts = and_parts (is_plain b) (list_all is_plain text) plain in
    let first = and_parts _ _ parts.0 in
    let apart = and_parts _ _ first.1 in
    ap₂ (λ (s t : List ℕ). s ++ t)
    (escape_byte_plain b (eqb-false b 34 (not-true _ apart.0)) (eqb-false b 92 (not-true _ apart.1)) (leb-true 32 b first.0))
    (unescaped text parts.1)

pub plain_text : (text : List ℕ) → list_all is_plain text ≡ true → compact_text (string text) ≡ ascii.quote ∷ (text ++ ascii.quote ∷ [])
plain_text text plain = ap (λ t. 34 ∷ (t ++ 34 ∷ [])) (unescaped text plain)
