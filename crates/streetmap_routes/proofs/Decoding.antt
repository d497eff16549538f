-- A part of a path, percent-decoded.
use Rattle.std.proofs.Common.{◌≡◌, List, ℕ, Bool, true, false, refl, sym, ap, subst, ◌∙◌, Some, None, String, Global}
use Rattle.std.specs.Prelude.{Option, MatchOption, IsUtf8, option_map, string_bytes, if◌then◌else◌}
use Rattle.std.specs.Str.{is_utf8}
use Rattle.std.proofs.lemmas.Str.{IsUtf8-from_is_utf8, is_utf8-from_IsUtf8, IsUtf8-string_bytes}
use Rattle.streetmap_routes.specs.Operations.{if_text}

none_is : (bytes : List ℕ) (b : Bool) → is_utf8 bytes ≡ b → (IsUtf8 bytes → ⊥) → ◌≡◌ {A = Option (List ℕ)} None (if b then Some bytes else None)
none_is bytes true e h = absurd (h (IsUtf8-from_is_utf8 bytes e))
none_is bytes false e h = refl

pub decoded_text : (bytes : List ℕ) (found : Option (String Global)) → MatchOption found (IsUtf8 bytes → ⊥) (λ text. string_bytes text ≡ bytes)
    → option_map string_bytes found ≡ if_text bytes
decoded_text bytes None h = none_is bytes (is_utf8 bytes) refl h
decoded_text bytes (Some text) h =
    let good : is_utf8 bytes ≡ true = is_utf8-from_IsUtf8 bytes (subst IsUtf8 h (IsUtf8-string_bytes text)) in
    ap Some h ∙ ap (λ b. if b then Some bytes else None) (sym good)
