-- What the compact text of a feature says of it.
use Rattle.std.specs.Prelude.{◌≡◌, ℕ, List, Option, Ok, option_map}
use Rattle.serde_json.specs.Written.{compact_text}
use Rattle.streetmap_grid.specs.Values.{BoxValue}
use Rattle.streetmap_grid.specs.Extent.{extent_of}
use Rattle.streetmap_moment.specs.IntervalValue.{IntervalValue}
use Rattle.streetmap_geojson.specs.FeatureValue.{FeatureValue}
use Rattle.streetmap_geojson.specs.FeatureInvariant.{IsFeature}
use Rattle.streetmap_geojson.specs.Times.{time_of}
use Rattle.streetmap_feature_reader.specs.UsualTexts.{feature_of_text}
use Rattle.streetmap_feature_text.specs.Written.{feature_data}

-- the text is the compact text of a feature, and reads as that feature; the id and the extent are
-- those of the feature, and the time is that under the property of that name
pub record IsCompactOf (time_property : Option (List ℕ)) (text id : List ℕ)
    (extent : Option BoxValue) (time : Option IntervalValue) : Type 0 where
  pub feature : FeatureValue
  pub is : IsFeature feature
  pub written : text ≡ compact_text (feature_data feature)
  pub named : id ≡ feature.id
  pub reaches : extent ≡ option_map extent_of feature.geometry
  pub timed : time ≡ feature.time
  pub reported : time_of time_property feature.properties ≡ Ok feature.time
  pub reads : feature_of_text time_property text ≡ Ok feature
