use Rattle.std.proofs.Common.{◌≡◌, true, false, ℕ, List, Bool, None, refl}
use Rattle.std.proofs.lemmas.Str.{is_utf8-from_IsUtf8, IsUtf8-from_is_utf8}
use Rattle.std.specs.Str.{is_utf8}
use Rattle.streetmap_placing.specs.Text.{utf8_tree}
use Rattle.streetmap_placing.proofs.feature_texts.read_by.Goals as goal

none_at : (text : List ℕ) (b : Bool) → is_utf8 text ≡ b → (b ≡ true → ⊥) → utf8_tree text ≡ None
none_at text true e never = absurd (never refl)
none_at text false e never = rw e refl

pub returns-in-Ok : goal.returns-in-Ok
returns-in-Ok c =
    let text : is_utf8 c.args.bytes.now ≡ true =
    is_utf8-from_IsUtf8 c.args.bytes.now c.in-Ok.ensures.cases.1 in
    rw (text, ← c.in-Ok.ensures.cases.0) c.read_text.ensures

pub returns-in-Err : goal.returns-in-Err
returns-in-Err c =
    let text = c.args.bytes.now in
    let none = none_at text (is_utf8 text) refl
    (λ e. c.in-Err.ensures.cases.0 (IsUtf8-from_is_utf8 text e)) in
    rw none refl
