-- Rings: their closure, their double area, and the direction in which they run.
use Rattle.std.specs.Prelude.{ℤ, pos, ◌+ℤ◌, ◌-ℤ◌, ◌*ℤ◌, Bool, true, false, not, ◌&&◌, int_lt, List}
use Rattle.std.specs.Prelude.{[], ◌∷◌, map, reverse, if◌then◌else◌}
use Rattle.std.specs.List.{list_all}
use Rattle.std.specs.Option.{option_eq}
use Rattle.std.specs.Ordering.{int_eq}
use Rattle.streetmap_grid.specs.Values.{PositionValue}
use Rattle.streetmap_grid.specs.Edges.{edges}

-- identical in easting, northing and height, which may be absent in both
abbrev pub is_same : PositionValue → PositionValue → Bool
is_same a b = int_eq a.x b.x && (int_eq a.y b.y && option_eq int_eq a.z b.z)

-- the last of a position and those after it
abbrev pub last_from : PositionValue → List PositionValue → PositionValue
last_from a [] = a
last_from a (b ∷ bs) = last_from b bs

-- RFC 7946 3.1.6: the first and last positions are identical
abbrev pub is_closed : List PositionValue → Bool
is_closed [] = false
is_closed (a ∷ bs) = is_same a (last_from a bs)

-- ax by - bx ay of an edge: twice the area between it and the origin, in square millimetres
abbrev pub edge_area : PositionValue × PositionValue → ℤ
edge_area e = e.0.x *ℤ e.1.y -ℤ e.1.x *ℤ e.0.y

-- the sum over edges
abbrev pub edges_area : List (PositionValue × PositionValue) → ℤ
edges_area [] = pos 0
edges_area (e ∷ es) = edge_area e +ℤ edges_area es

-- above zero for a ring that runs counterclockwise
abbrev pub double_area : List PositionValue → ℤ
double_area ps = edges_area (edges ps)

-- a hole has the wrong sign above zero, an exterior ring below it
abbrev pub is_wrong : (hole : Bool) → ℤ → Bool
is_wrong hole area = if hole then int_lt (pos 0) area else int_lt area (pos 0)

-- a ring of the wrong sign reversed, any other as it is
abbrev pub turned : (hole : Bool) → List PositionValue → List PositionValue
turned hole ring = if is_wrong hole (double_area ring) then reverse ring else ring

-- RFC 7946 3.1.6: the exterior ring counterclockwise, the holes clockwise
abbrev pub oriented : List (List PositionValue) → List (List PositionValue)
oriented [] = []
oriented (exterior ∷ holes) = turned false exterior ∷ map (turned true) holes

-- the ring does not have the wrong sign
abbrev pub is_right : (hole : Bool) → List PositionValue → Bool
is_right hole ring = not (is_wrong hole (double_area ring))

-- no ring of a polygon has the wrong sign
abbrev pub is_oriented_polygon : List (List PositionValue) → Bool
is_oriented_polygon [] = true
is_oriented_polygon (exterior ∷ holes) = is_right false exterior && list_all (is_right true) holes
