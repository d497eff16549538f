-- What the front of a text is, and the bytes after it.
use Rattle.std.specs.Prelude.{◌≡◌, ◌≤◌, ℕ, List, ◌++◌, ◌∷◌, length, All, IsTrue, IfSome, Option}
use Rattle.std.specs.Prelude.{option_map, false, Bool, codes}
use Rattle.serde_json.specs.Data.{Data, depth, Members, members_depth}
use Rattle.serde_json.specs.Find.{get, get_member}
use Rattle.serde_json.specs.Written.{compact_text, members_text, has_float, members_have_float}
use Rattle.streetmap_grid.specs.Values.{PositionValue, BoxValue, SimpleValue, GeometryValue}
use Rattle.streetmap_grid.specs.Views.{position_value, box_value}
use Rattle.streetmap_grid.specs.WellFormed.{IsInGrid, IsRing, IsPolygon, IsSimple}
use Rattle.streetmap_grid.specs.WellFormed.{is_oriented_simple}
use Rattle.streetmap_grid.specs.Extent.{positions_extent, extent_of, polygon_vertices}
use Rattle.streetmap_grid.specs.Extent.{simple_vertices}
use Rattle.streetmap_grid.specs.Ring.{last_from, double_area, is_right, is_oriented_polygon}
use Rattle.streetmap_json.specs.ExactData.{is_exact, are_exact_members}
use Rattle.streetmap_geojson.specs.FeatureInvariant.{IsGeometryIf, is_oriented_if}
use Rattle.streetmap_geojson.specs.Meaning.{count_if, position_count, simple_count}
use Rattle.streetmap_geojson.specs.Meaning.{polygon_count}
use Rattle.streetmap_geojson.specs.ParsedFeatures.{is_properties}
use Rattle.streetmap_geojson.specs.ParsedGeometries.{max_positions}
use Rattle.streetmap_feature_text.specs.Written.{line_data, polygon_data, coordinates_data}
use Rattle.streetmap_feature_text.specs.Written.{name_of, geometry_member}
use Rattle.streetmap_compact_reader.specs.declared.flat.Flat.{Flat}
use Rattle.streetmap_compact_reader.specs.declared.positions.Positions.{Positions}
use Rattle.streetmap_compact_reader.specs.Flat.{flat_data}

-- what is kept is that of these positions: the first one and the others
pub record IsKeptOf (first : PositionValue) (others : List PositionValue) (kept : Positions)
    : Type 0 where
  pub starts : position_value kept.first ≡ first
  pub inside : All IsInGrid (first ∷ others)
  pub counted : kept.count ≡ length (first ∷ others)
  pub few : kept.count ≤ max_positions
  pub reaches : box_value kept.extent ≡ positions_extent (first ∷ others)
  pub ends : position_value kept.last ≡ last_from first others
  pub around : kept.area ≡ double_area (first ∷ others)

-- an array of positions, of which this is kept
pub record ArePositions (before after : List ℕ) (kept : Positions) : Type 0 where
  pub first : PositionValue
  pub others : List PositionValue
  pub text : before ≡ compact_text (line_data (first ∷ others)) ++ after
  pub are : IsKeptOf first others kept

-- a ring that runs in the right direction, of which this is kept
pub record IsRingFront (hole : Bool) (before after : List ℕ) (kept : Positions) : Type 0 where
  pub first : PositionValue
  pub others : List PositionValue
  pub text : before ≡ compact_text (line_data (first ∷ others)) ++ after
  pub are : IsKeptOf first others kept
  pub ring : IsRing (first ∷ others)
  pub right : IsTrue (is_right hole (first ∷ others))

-- the rings of a polygon, with that number of positions and this extent
pub record AreRings (exterior : List PositionValue) (holes : List (List PositionValue)) (count : ℕ)
    (extent : BoxValue) : Type 0 where
  pub rings : IsPolygon (exterior ∷ holes)
  pub right : IsTrue (is_oriented_polygon (exterior ∷ holes))
  pub counted : count ≡ polygon_count (exterior ∷ holes)
  pub few : count ≤ max_positions
  pub reaches : extent ≡ positions_extent (polygon_vertices (exterior ∷ holes))

-- an array of the rings of a polygon with this extent
pub record IsPolygonFront (before after : List ℕ) (extent : BoxValue) : Type 0 where
  pub rings : List (List PositionValue)
  pub text : before ≡ compact_text (polygon_data rings) ++ after
  pub made : IsPolygon rings
  pub right : IsTrue (is_oriented_polygon rings)
  pub few : polygon_count rings ≤ max_positions
  pub reaches : extent ≡ positions_extent (polygon_vertices rings)

-- what follows the coordinates of a geometry
abbrev pub after_coordinates : SimpleValue → List ℕ → List ℕ
after_coordinates s after = codes ",\"type\":\"" ++ (name_of s ++ (codes "\"}" ++ after))

-- the coordinates and the type of a geometry with this extent, which is no collection
pub record AreCoordinates (before after : List ℕ) (extent : BoxValue) : Type 0 where
  pub simple : SimpleValue
  pub text : before ≡ compact_text (coordinates_data simple) ++ after_coordinates simple after
  pub made : IsSimple simple
  pub few : simple_count simple ≤ max_positions
  pub oriented : IsTrue (is_oriented_simple simple)
  pub reaches : extent ≡ positions_extent (simple_vertices simple)

-- a geometry of a feature with this extent, or null
pub record IsGeometryFront (before after : List ℕ) (extent : Option BoxValue) : Type 0 where
  pub geometry : Option GeometryValue
  pub text : before ≡ compact_text (geometry_member geometry) ++ after
  pub made : IsGeometryIf geometry
  pub few : count_if position_count geometry ≤ max_positions
  pub oriented : IsTrue (is_oriented_if geometry)
  pub reaches : extent ≡ option_map extent_of geometry

-- the members of an object up to its closing brace; the value of that name, if a name is given, is
-- the one found
pub record AreMembers (before after : List ℕ) (name : Option (List ℕ)) (found : Option Flat)
    : Type 0 where
  pub members : Members
  pub text : before ≡ members_text false members ++ after
  pub flat : members_depth members ≤ 0
  pub whole : members_have_float members ≡ false
  pub exact : IsTrue (are_exact_members members)
  pub said : IfSome name (λ n. get_member n members ≡ option_map flat_data found)

-- the properties of a feature; the one of that name, if a name is given, is the one found
pub record AreProperties (before after : List ℕ) (name : Option (List ℕ))
    (found : Option Flat) : Type 0 where
  pub properties : Data
  pub text : before ≡ compact_text properties ++ after
  pub kept : IsTrue (is_properties properties)
  pub flat : depth properties ≤ 63
  pub whole : has_float properties ≡ false
  pub exact : IsTrue (is_exact properties)
  pub said : IfSome name (λ n. get n properties ≡ option_map flat_data found)
