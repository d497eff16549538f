-- A text in quotes at the front.
use Rattle.std.proofs.Common.{◌≡◌, ℕ, List, [], ◌∷◌, ◌++◌, ap, sym, ◌∙◌, append_assoc}
use Rattle.std.specs.List.{list_all}
use Rattle.std.proofs.Common.{true}
use Rattle.serde_json.specs.Data.{string}
use Rattle.serde_json.specs.Written.{compact_text}
use Rattle.streetmap_feature_text.specs.Plain.{is_plain}
use Rattle.streetmap_feature_text.proofs.PlainTexts.{plain_text}

pub quoted_front : (before text after : List ℕ) → list_all is_plain text ≡ true → before ≡ text ++ 34 ∷ after → 34 ∷ before ≡ compact_text (string text)
    ++ after
quoted_front before text after plain e =
    ap (λ (s : List ℕ). 34 ∷ s) (e ∙ sym (append_assoc text (34 ∷ []) after)) ∙ ap (λ (s : List ℕ). s ++ after) (sym (plain_text text plain))
