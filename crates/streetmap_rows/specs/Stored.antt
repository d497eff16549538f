-- The text that is kept of a feature, and the feature that it reads as.
use Rattle.std.specs.Prelude.{◌≡◌, Option, Ok}
use Rattle.serde_json.specs.Data.{Data}
use Rattle.streetmap_geojson.specs.FeatureValue.{FeatureValue}
use Rattle.streetmap_geojson.specs.JsonText.{json_of}
use Rattle.streetmap_geojson.specs.FeatureMeaning.{ReadsAs}
use Rattle.streetmap_geojson.specs.FeatureInvariant.{IsFeature}
use Rattle.streetmap_geojson.specs.Times.{time_of}
use Rattle.streetmap_batch.specs.Text.{Text}

-- a feature that a collection with this time property keeps
pub record IsStored (property : Option Text) (f : FeatureValue) : Type 0 where
  pub kept : IsFeature f
  pub timed : time_of property f.properties ≡ Ok f.time

-- the text is JSON of a value that reads as this feature, under a collection's time property
abbrev pub TextReadsAs : Option Text → Text → FeatureValue → Type 0
TextReadsAs property text f = (d : Data) × (json_of text ≡ Ok d) × ReadsAs property d f
