-- The value of JSON bytes with the faults of this crate.
use Rattle.std.proofs.Common.{◌≡◌, ◌≤◌, true, Option, Ok, ok_or, ap}
use Rattle.serde_json.specs.Data.{Data, depth}
use Rattle.serde_json.specs.Read.{max_depth}
use Rattle.serde_json.specs.Written.{compact_text}
use Rattle.streetmap_json.specs.ExactData.{is_exact}
use Rattle.streetmap_json.proofs.WrittenTextAgain as json
use Rattle.streetmap_geojson.specs.JsonText.{json_of}
use Rattle.streetmap_geojson.specs.declared.fault.Fault.TheVariants.{NotJson}

pub text_again : (d : Data) → is_exact d ≡ true → depth d ≤ max_depth → json_of (compact_text d) ≡ Ok d
text_again d h shallow = ap (λ (value : Option Data). ok_or value NotJson) (json.text_again d h shallow)
