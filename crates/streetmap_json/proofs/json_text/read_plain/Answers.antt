use Rattle.std.proofs.Common.{◌≡◌, true, false, ℕ, List, Bool, None, refl}
use Rattle.std.proofs.lemmas.Str.{is_utf8-from_IsUtf8, IsUtf8-from_is_utf8}
use Rattle.std.specs.Str.{is_utf8}
use Rattle.streetmap_json.specs.JsonText.{utf8_value}
use Rattle.streetmap_json.proofs.json_text.read_plain.Goals as goal

none_at : (text : List ℕ) (b : Bool) → is_utf8 text ≡ b → (b ≡ true → ⊥) → utf8_value text ≡ None
none_at text true e never = absurd (never refl)
none_at text false e never = rw e refl

pub returns-in-Ok : goal.returns-in-Ok
returns-in-Ok c =
    let text : is_utf8 c.args.bytes.now ≡ true = is_utf8-from_IsUtf8 c.args.bytes.now c.in-Ok.ensures.1 in
    rw (text, ← c.in-Ok.ensures.0) c.read_text.ensures

pub returns-in-Err : goal.returns-in-Err
returns-in-Err c =
    let text = c.args.bytes.now in
    none_at text (is_utf8 text) refl (λ e. c.in-Err.ensures (IsUtf8-from_is_utf8 text e))
