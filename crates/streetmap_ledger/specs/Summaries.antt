-- The description of a collection. OGC 17-069, sections 7.13 and 7.14.
use Rattle.std.specs.Prelude.{List, [], ◌∷◌, Option, None, Some, map}
use Rattle.std.specs.Option.{option_map, option_map_or}
use Rattle.std.specs.List.{flat_map}
use Rattle.std.specs.FinMap.{get, values, entries}
use Rattle.streetmap_grid.specs.Values.{PositionValue, BoxValue}
use Rattle.streetmap_grid.specs.Extent.{vertices, positions_extent}
use Rattle.streetmap_geojson.specs.FeatureValue.{FeatureValue}
use Rattle.streetmap_batch.specs.Text.{Text}
use Rattle.streetmap_ledger.specs.State.{State, Collection}

-- a collection's id, title and time property, and the extent of its features
pub record SummaryValue : Type 0 where
  pub id : Text
  pub title : Text
  pub time : Option Text
  pub extent : Option BoxValue

-- all positions of a feature
abbrev pub feature_vertices : FeatureValue → List PositionValue
feature_vertices f = option_map_or vertices f.geometry []

-- all positions of features
abbrev pub all_vertices : List FeatureValue → List PositionValue
all_vertices fs = flat_map feature_vertices fs

-- the extent of positions: none without positions
abbrev pub extent_if : List PositionValue → Option BoxValue
extent_if [] = None
extent_if (p ∷ ps) = Some (positions_extent (p ∷ ps))

-- a collection under its id
abbrev pub summary_of : Text → Collection → SummaryValue
summary_of id c = record {
  id = id;
  title = c.title;
  time = c.time;
  extent = extent_if
      (all_vertices (values c.features));
}

-- none if the collection does not exist
abbrev pub summary_in : State → Text → Option SummaryValue
summary_in s id = option_map (summary_of id) (get s.collections id)

-- all collections, in byte order of ids
abbrev pub summaries_in : State → List SummaryValue
summaries_in s = map (λ e. summary_of e.0 e.1) (entries s.collections)
