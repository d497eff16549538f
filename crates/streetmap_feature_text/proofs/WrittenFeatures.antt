-- The compact text of what is written for a feature reads as its value.
use Rattle.std.proofs.Common.{◌≡◌, ◌≤◌, Some, Ok, arith}
use Rattle.serde_json.specs.Data.{depth}
use Rattle.serde_json.specs.Read.{read, max_depth}
use Rattle.serde_json.specs.Written.{compact_text}
use Rattle.streetmap_geojson.specs.FeatureValue.{FeatureValue}
use Rattle.streetmap_geojson.specs.FeatureInvariant.{IsFeature}
use Rattle.streetmap_geojson.specs.JsonText.{json_of}
use Rattle.streetmap_feature_text.specs.Written.{feature_data}
use Rattle.streetmap_feature_text.proofs.Again.{depth_feature}
use Rattle.streetmap_feature_text.proofs.ExactFeatures.{exact_feature}
use Rattle.streetmap_json.proofs.WrittenTextReads.{text_reads}
use Rattle.streetmap_feature_text.proofs.JsonTexts.{text_again}

shallow : (f : FeatureValue) → IsFeature f → depth (feature_data f) ≤ max_depth
shallow f h = let k = depth_feature f h in omega (arith, k)

pub text_reads_again : (f : FeatureValue) → IsFeature f → read (compact_text (feature_data f)) ≡ Some (feature_data f)
text_reads_again f h = text_reads (feature_data f) (exact_feature f h) (shallow f h)

pub text_is_json : (f : FeatureValue) → IsFeature f → json_of (compact_text (feature_data f)) ≡ Ok (feature_data f)
text_is_json f h = text_again (feature_data f) (exact_feature f h) (shallow f h)
