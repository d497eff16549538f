-- A feature with its text, of which only a part may be kept.
use Rattle.std.specs.Prelude.{◌≡◌, ℕ, List, IfSome, Option, option_map}
use Rattle.serde_json.specs.Written.{compact_text}
use Rattle.streetmap_grid.specs.Values.{BoxValue}
use Rattle.streetmap_grid.specs.Extent.{extent_of}
use Rattle.streetmap_moment.specs.IntervalValue.{IntervalValue}
use Rattle.streetmap_geojson.specs.FeatureValue.{FeatureValue}
use Rattle.streetmap_geojson.specs.FeatureInvariant.{IsFeature}
use Rattle.streetmap_feature_text.specs.Written.{feature_data}

-- the text, the id, the extent and the time are those of one feature, and what is kept is that one
pub record IsWritten (text id : List ℕ) (extent : Option BoxValue) (time : Option IntervalValue)
    (kept : Option FeatureValue) : Type 0 where
  pub written : FeatureValue
  pub is : IsFeature written
  pub text_is : text ≡ compact_text (feature_data written)
  pub named : id ≡ written.id
  pub reaches : extent ≡ option_map extent_of written.geometry
  pub timed : time ≡ written.time
  pub same : IfSome kept (λ f. f ≡ written)
