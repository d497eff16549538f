-- What is known of the features of a collection without reading them.
use Rattle.std.specs.Prelude.{ℤ, List, Option, map}
use Rattle.std.specs.Option.{option_map}
use Rattle.std.specs.FinMap.{get, entries}
use Rattle.streetmap_grid.specs.Values.{BoxValue}
use Rattle.streetmap_grid.specs.Extent.{extent_of}
use Rattle.streetmap_moment.specs.Meeting.{seconds_of}
use Rattle.streetmap_geojson.specs.FeatureValue.{FeatureValue}
use Rattle.streetmap_batch.specs.Text.{Text}
use Rattle.streetmap_ledger.specs.State.{State, Collection}

-- a feature's id, its extent, and the first and the last second of its time
pub record FeatureOutlineValue : Type 0 where
  pub id : Text
  pub extent : Option BoxValue
  pub seconds : Option (ℤ × ℤ)

-- the outline of the feature that is kept under this id
abbrev pub feature_outline_of : Text → FeatureValue → FeatureOutlineValue
feature_outline_of id f = record
    { id = id; extent = option_map extent_of f.geometry; seconds = option_map seconds_of f.time }

-- the outlines of a collection's features, in byte order of ids
abbrev pub feature_outlines_of : Collection → List FeatureOutlineValue
feature_outlines_of c = map (λ e. feature_outline_of e.0 e.1) (entries c.features)

-- none if the collection does not exist
abbrev pub outlines_in : State → Text → Option (List FeatureOutlineValue)
outlines_in s name = option_map feature_outlines_of (get s.collections name)
