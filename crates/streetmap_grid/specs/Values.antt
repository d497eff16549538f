-- The plain values that the clauses speak of: numbers, lists and cases.
use Rattle.std.specs.Prelude.{ℤ, List, Option}

-- RFC 7946 3.1.1: easting, northing and an optional height, in millimetres
pub record PositionValue : Type 0 where
  pub x : ℤ
  pub y : ℤ
  pub z : Option ℤ

-- RFC 7946 5: the west, south, east and north edges of a box, which belong to it
pub record BoxValue : Type 0 where
  pub x0 : ℤ
  pub y0 : ℤ
  pub x1 : ℤ
  pub y1 : ℤ

-- RFC 7946 3.1.2 to 3.1.7: the six kinds that are not a collection; a polygon is its rings, the
-- exterior one first
pub data SimpleValue : Type 0 where
  point : PositionValue → SimpleValue
  multi_point : List PositionValue → SimpleValue
  line_string : List PositionValue → SimpleValue
  multi_line_string : List (List PositionValue) → SimpleValue
  polygon : List (List PositionValue) → SimpleValue
  multi_polygon : List (List (List PositionValue)) → SimpleValue

-- RFC 7946 3.1.8: a geometry of one of the six kinds, or a collection of these, not nested
pub data GeometryValue : Type 0 where
  simple : SimpleValue → GeometryValue
  collection : List SimpleValue → GeometryValue
