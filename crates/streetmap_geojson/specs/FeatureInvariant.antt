-- What is true of every feature.
use Rattle.std.specs.Prelude.{◌≡◌, ◌≤◌, Option, None, Some, Bool, true, false, IsTrue}
use Rattle.std.specs.Str.{is_utf8}
use Rattle.serde_json.specs.Data.{depth}
use Rattle.serde_json.specs.Written.{has_float}
use Rattle.streetmap_grid.specs.Values.{GeometryValue}
use Rattle.streetmap_grid.specs.WellFormed.{IsGeometry, is_oriented}
use Rattle.streetmap_moment.specs.IntervalValue.{IntervalValue, IsInterval}
use Rattle.streetmap_geojson.specs.FeatureValue.{FeatureValue}
use Rattle.streetmap_geojson.specs.Id.{is_id}
use Rattle.streetmap_geojson.specs.ParsedGeometries.{max_positions}
use Rattle.streetmap_geojson.specs.Meaning.{count_if, position_count}
use Rattle.streetmap_json.specs.ExactData.{is_exact}
use Rattle.streetmap_geojson.specs.ParsedFeatures.{is_properties}

abbrev pub IsGeometryIf : Option GeometryValue → Type 0
IsGeometryIf None = Unit {0}
IsGeometryIf (Some g) = IsGeometry g

-- every polygon has its exterior ring counterclockwise and its holes clockwise
abbrev pub is_oriented_if : Option GeometryValue → Bool
is_oriented_if None = true
is_oriented_if (Some g) = is_oriented g

abbrev pub IsIntervalIf : Option IntervalValue → Type 0
IsIntervalIf None = Unit {0}
IsIntervalIf (Some i) = IsInterval i

pub record IsFeature (f : FeatureValue) : Type 0 where
  pub named : IsTrue (is_id f.id)
  pub text : IsTrue (is_utf8 f.id)
  pub made : IsGeometryIf f.geometry
  pub few : count_if position_count f.geometry ≤ max_positions
  pub oriented : IsTrue (is_oriented_if f.geometry)
  pub kept : IsTrue (is_properties f.properties)
  pub flat : depth f.properties ≤ 63
  pub whole : has_float f.properties ≡ false
  pub exact : IsTrue (is_exact f.properties)
  pub timed : IsIntervalIf f.time

-- what the type of a feature keeps, besides what the types of its id, geometry and time keep
pub record KeepsRules (f : FeatureValue) : Type 0 where
  pub few : count_if position_count f.geometry ≤ max_positions
  pub oriented : IsTrue (is_oriented_if f.geometry)
  pub kept : IsTrue (is_properties f.properties)
  pub flat : depth f.properties ≤ 63
  pub whole : has_float f.properties ≡ false
  pub exact : IsTrue (is_exact f.properties)
