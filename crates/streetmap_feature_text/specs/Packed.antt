-- A feature that is kept as its text, with its extent and its time beside it.
use Rattle.std.specs.Prelude.{◌≡◌, ℕ, ◌≤◌, List, [], length, slice_range, IfSome, Option, None}
use Rattle.std.specs.Prelude.{option_map, Result, Ok, Err}
use Rattle.serde_json.specs.Data.{null}
use Rattle.serde_json.specs.Written.{compact_text}
use Rattle.streetmap_grid.specs.Values.{BoxValue}
use Rattle.streetmap_grid.specs.Extent.{extent_of}
use Rattle.streetmap_moment.specs.IntervalValue.{IntervalValue}
use Rattle.streetmap_geojson.specs.declared.fault.Fault.{Fault}
use Rattle.streetmap_feature_text.specs.declared.packed.Part.{Part}
use Rattle.streetmap_geojson.specs.Fault.{◌>>=◌}
use Rattle.streetmap_geojson.specs.FeatureValue.{FeatureValue, retimed}
use Rattle.streetmap_geojson.specs.ParsedFeatures.{feature}
use Rattle.streetmap_geojson.specs.JsonText.{json_of}
use Rattle.streetmap_geojson.specs.FeatureInvariant.{IsFeature}
use Rattle.streetmap_feature_text.specs.Written.{feature_data}

-- the feature that a JSON text reads as, without a time
abbrev pub feature_in_text : List ℕ → Result FeatureValue Fault
feature_in_text text = json_of text >>= λ d. feature None d

-- what was read, or an empty feature
abbrev pub or_nothing : Result FeatureValue Fault → FeatureValue
or_nothing (Ok f) = f
or_nothing (Err fault) = record { id = []; geometry = None; properties = null; time = None }

-- the feature of a text, with this time
unfoldable pub unpacked : List ℕ → Option IntervalValue → FeatureValue
unpacked text time = retimed (or_nothing (feature_in_text text)) time

-- the part lies within the text, and has these bytes
pub record IsPartOf (part : Part) (text part_text : List ℕ) : Type 0 where
  pub forward : part.start ≤ part.end
  pub within : part.end ≤ length text
  pub is : slice_range text part.start part.end ≡ part_text

-- the text is that of a feature, the extent that of its geometry, and the part, if one is given,
-- its id
pub record IsPacked (text : List ℕ) (extent : Option BoxValue) (id : Option Part) : Type 0 where
  pub packed : FeatureValue
  pub is : IsFeature packed
  pub written : text ≡ compact_text (feature_data packed)
  pub reaches : extent ≡ option_map extent_of packed.geometry
  pub named : IfSome id (λ part. IsPartOf part text packed.id)

-- the text is the compact text of this feature, with this id, this extent and this time
pub record IsFoundIn (text id : List ℕ) (extent : Option BoxValue) (time : Option IntervalValue)
    (f : FeatureValue) : Type 0 where
  pub is : IsFeature f
  pub written : text ≡ compact_text (feature_data f)
  pub named : id ≡ f.id
  pub reaches : extent ≡ option_map extent_of f.geometry
  pub timed : time ≡ f.time
