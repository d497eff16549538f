-- The text of exact data is JSON bytes whose value is that data.
use Rattle.std.proofs.Common.{◌≡◌, ℕ, ◌≤◌, true, List, Option, Some, Result, refl, ap, subst, ◌∙◌}
use Rattle.serde_json.specs.Data.{Data, depth}
use Rattle.serde_json.specs.Read.{max_depth}
use Rattle.serde_json.specs.Written.{compact_text}
use Rattle.serde_json.specs.declared.value.Value.{Value}
use Rattle.streetmap_json.specs.ExactData.{is_exact}
use Rattle.streetmap_json.specs.JsonText.{utf8_value, json_value}
use Rattle.streetmap_json.specs.NumberText.{with_whole_numbers}
use Rattle.streetmap_json.specs.Reads.{Reads}
use Rattle.streetmap_json.specs.declared.fault.ParseFault.{ParseFault}
use Rattle.streetmap_json.proofs.NumberTextKept.{text_kept}
use Rattle.streetmap_json.proofs.WrittenTextReads.{text_reads}
use Rattle.streetmap_json.proofs.WrittenTextUtf8.{text_utf8}

pub text_again : (d : Data) → is_exact d ≡ true → depth d ≤ max_depth → json_value (compact_text d) ≡ Some d
text_again d h shallow = rw (text_kept d h, text_utf8 d h, text_reads d h shallow) refl

-- the result for the changed bytes, if the bytes are such a text
pub reads_again : (answer : Result Value ParseFault) (bytes plain : List ℕ) → Reads answer (utf8_value plain) → plain ≡ with_whole_numbers bytes
    → (d : Data) → is_exact d ≡ true → depth d ≤ max_depth → bytes ≡ compact_text d → Reads answer (Some d)
reads_again answer bytes plain given changed d h shallow is =
    let value : utf8_value plain ≡ Some d = ap utf8_value changed ∙ ap json_value is ∙ text_again d h shallow in
    subst (λ (read : Option Data). Reads answer read) value given
