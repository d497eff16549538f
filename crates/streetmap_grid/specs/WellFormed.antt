-- What is known of every value that Rust's types hold.
use Rattle.std.specs.Prelude.{◌≤◌, ◌≤ℤ◌, Bool, true, List, length, All, IfSome, IsTrue}
use Rattle.std.specs.List.{list_all}
use Rattle.streetmap_grid.specs.Values.{PositionValue, BoxValue, SimpleValue, GeometryValue, point}
use Rattle.streetmap_grid.specs.Values.{multi_point, line_string, multi_line_string, polygon}
use Rattle.streetmap_grid.specs.Values.{multi_polygon, simple, collection}
use Rattle.streetmap_grid.specs.Range.{IsCoordinate, IsBound}
use Rattle.streetmap_grid.specs.Ring.{is_closed, is_oriented_polygon}

-- each coordinate is one of the grid's
abbrev pub IsInGrid : PositionValue → Type 0
IsInGrid p = IsCoordinate p.x × IsCoordinate p.y × IfSome p.z IsCoordinate

-- bounds in range, west not east of east, south not north of north
abbrev pub IsBox : BoxValue → Type 0
IsBox g = IsBound g.x0 × IsBound g.y0 × IsBound g.x1 × IsBound g.y1 × (g.x0 ≤ℤ g.x1)
    × (g.y0 ≤ℤ g.y1)

-- RFC 7946 3.1.4: two or more positions
abbrev pub IsLine : List PositionValue → Type 0
IsLine ps = All IsInGrid ps × (2 ≤ length ps)

-- RFC 7946 3.1.6: four or more positions, the first and last identical
abbrev pub IsRing : List PositionValue → Type 0
IsRing ps = All IsInGrid ps × (4 ≤ length ps) × IsTrue (is_closed ps)

-- RFC 7946 3.1.6: one or more rings
abbrev pub IsPolygon : List (List PositionValue) → Type 0
IsPolygon rings = All IsRing rings × (1 ≤ length rings)

-- each kind by its rule; no list is empty
abbrev pub IsSimple : SimpleValue → Type 0
IsSimple (point p) = IsInGrid p
IsSimple (multi_point ps) = All IsInGrid ps × (1 ≤ length ps)
IsSimple (line_string ps) = IsLine ps
IsSimple (multi_line_string ls) = All IsLine ls × (1 ≤ length ls)
IsSimple (polygon rings) = IsPolygon rings
IsSimple (multi_polygon ps) = All IsPolygon ps × (1 ≤ length ps)

-- a geometry, or a collection of one or more
abbrev pub IsGeometry : GeometryValue → Type 0
IsGeometry (simple s) = IsSimple s
IsGeometry (collection ss) = All IsSimple ss × (1 ≤ length ss)

-- no ring of it has the wrong sign
abbrev pub is_oriented_simple : SimpleValue → Bool
is_oriented_simple (point p) = true
is_oriented_simple (multi_point ps) = true
is_oriented_simple (line_string ps) = true
is_oriented_simple (multi_line_string ls) = true
is_oriented_simple (polygon rings) = is_oriented_polygon rings
is_oriented_simple (multi_polygon ps) = list_all is_oriented_polygon ps

-- no ring of it, or of a member, has the wrong sign
abbrev pub is_oriented : GeometryValue → Bool
is_oriented (simple s) = is_oriented_simple s
is_oriented (collection ss) = list_all is_oriented_simple ss
