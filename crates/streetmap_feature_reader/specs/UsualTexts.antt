-- The feature that a JSON text reads as.
use Rattle.std.specs.Prelude.{◌≡◌, ℕ, List, Option, Some, Result, Ok}
use Rattle.serde_json.specs.Data.{Data}
use Rattle.streetmap_json.specs.JsonText.{json_value}
use Rattle.streetmap_geojson.specs.declared.fault.Fault.{Fault}
use Rattle.streetmap_geojson.specs.Fault.{◌>>=◌}
use Rattle.streetmap_geojson.specs.FeatureMembers.{feature_object}
use Rattle.streetmap_geojson.specs.ParsedFeatures.{feature}
use Rattle.streetmap_geojson.specs.FeatureValue.{FeatureValue}
use Rattle.streetmap_geojson.specs.JsonText.{json_of}

-- what the value of the text reads as, its time by the property of that name
abbrev pub feature_of_text : (time_property : Option (List ℕ)) → List ℕ → Result FeatureValue Fault
feature_of_text time_property text = json_of text >>= feature time_property

-- the value is an object with the members that a feature usually has, and reads as the feature
pub record IsUsualValue (time_property : Option (List ℕ)) (value : Option Data)
    (f : FeatureValue) : Type 0 where
  pub geometry : Data
  pub id : Data
  pub properties : Data
  pub is : value ≡ Some (feature_object geometry id properties)
  pub reads : feature time_property (feature_object geometry id properties) ≡ Ok f

-- the text has such a value
abbrev pub IsUsual : (time_property : Option (List ℕ)) → List ℕ → FeatureValue → Type 0
IsUsual time_property text = IsUsualValue time_property (json_value text)
