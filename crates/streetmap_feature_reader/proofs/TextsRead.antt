-- What a text reads as is what its value reads as.
use Rattle.std.proofs.Common.{◌≡◌, ℕ, List, Option, Result, Ok, Err, IfOk, subst, ap}
use Rattle.serde_json.specs.Data.{Data}
use Rattle.streetmap_geojson.specs.declared.fault.JsonFault.{JsonFault}
use Rattle.streetmap_geojson.specs.Fault.{Gives, ◌>>=◌}
use Rattle.streetmap_geojson.specs.FeatureMeaning.{ReadsAs}
use Rattle.streetmap_geojson.specs.ParsedFeatures.{feature}
use Rattle.streetmap_geojson.specs.FeatureValue.{FeatureValue}
use Rattle.streetmap_geojson.specs.JsonText.{json_of}
use Rattle.streetmap_geojson.proofs.Steps.{bind_ok}
use Rattle.streetmap_geojson.proofs.Wholes.{is_found, is_read}
use Rattle.streetmap_feature_reader.specs.UsualTexts.{feature_of_text}

module _ {X : Type 0} (view : X → FeatureValue) (r : Result X JsonFault) (time_property : Option (List ℕ)) (text : List ℕ) (h : Gives view r (feature_of_text time_property text)) where
  pub text_read : (d : Data) (f : FeatureValue) → json_of text ≡ Ok d → ReadsAs time_property d f → Gives view r (Ok f)
  text_read d f is = is_read view r time_property d (subst (Gives view r) (ap (λ o. o >>= feature time_property) is) h) f

pub text_found : {X : Type 0} (view : X → FeatureValue) (r : Result X JsonFault) (time_property : Option (List ℕ)) (text : List ℕ) → Gives view r (feature_of_text time_property text)
    → IfOk r (λ x. (d : Data) × (json_of text ≡ Ok d) × ReadsAs time_property d (view x))
text_found view (Ok x) time_property text h =
    let read = bind_ok (json_of text) (feature time_property) (view x) h in
    (read.0, read.1, is_found view (Ok x) time_property read.0 read.2)
text_found view (Err fault) time_property text h = tt
