-- The extent of a geometry, and boxes that overlap.
use Rattle.std.specs.Prelude.{ℤ, pos, int_le, ◌≡◌, Bool, ◌&&◌, List, [], ◌∷◌, map, All}
use Rattle.std.specs.List.{flat_map, fold}
use Rattle.std.specs.Int.{int_max, int_min}
use Rattle.streetmap_grid.specs.Values.{PositionValue, BoxValue, SimpleValue, GeometryValue, point}
use Rattle.streetmap_grid.specs.Values.{multi_point, line_string, multi_line_string, polygon}
use Rattle.streetmap_grid.specs.Values.{multi_polygon, simple, collection}
use Rattle.streetmap_grid.specs.Some.{SomeOf}
use Rattle.streetmap_grid.specs.Meeting.{Holds}

-- the positions of a polygon, those of its holes too
abbrev pub polygon_vertices : List (List PositionValue) → List PositionValue
polygon_vertices rings = flat_map (λ ring. ring) rings

-- all positions of a geometry that is not a collection
abbrev pub simple_vertices : SimpleValue → List PositionValue
simple_vertices (point p) = p ∷ []
simple_vertices (multi_point ps) = ps
simple_vertices (line_string ps) = ps
simple_vertices (multi_line_string ls) = flat_map (λ line. line) ls
simple_vertices (polygon rings) = polygon_vertices rings
simple_vertices (multi_polygon ps) = flat_map polygon_vertices ps

-- all positions of a geometry, those of members too
abbrev pub vertices : GeometryValue → List PositionValue
vertices (simple s) = simple_vertices s
vertices (collection ss) = flat_map simple_vertices ss

-- the box holds every position, and each of its bounds is the coordinate of one
pub record IsExtent (ps : List PositionValue) (g : BoxValue) : Type 0 where
  pub holds : All (λ p. Holds g p.x p.y) ps
  pub west : SomeOf (λ p. p.x ≡ g.x0) ps
  pub south : SomeOf (λ p. p.y ≡ g.y0) ps
  pub east : SomeOf (λ p. p.x ≡ g.x1) ps
  pub north : SomeOf (λ p. p.y ≡ g.y1) ps

-- the least and the greatest coordinates; of no position, the point (0, 0)
abbrev pub positions_extent : List PositionValue → BoxValue
positions_extent [] = record { x0 = pos 0; y0 = pos 0; x1 = pos 0; y1 = pos 0 }
positions_extent (p ∷ ps) =
    record {
      x0 = fold int_min p.x (map (λ v. v.x) ps);
      y0 = fold int_min p.y (map (λ v. v.y) ps);
      x1 = fold int_max p.x (map (λ v. v.x) ps);
      y1 = fold int_max p.y (map (λ v. v.y) ps);
    }

-- the extent of a geometry
unfoldable pub extent_of : GeometryValue → BoxValue
extent_of v = positions_extent (vertices v)

-- the least box that holds both
abbrev pub union : BoxValue → BoxValue → BoxValue
union a b = record {
  x0 = int_min a.x0 b.x0;
  y0 = int_min a.y0 b.y0;
  x1 = int_max a.x1 b.x1;
  y1
      = int_max a.y1 b.y1;
}

-- two closed boxes have a point in common
abbrev pub Overlaps : BoxValue → BoxValue → Type 0
Overlaps a b = (x : ℤ) × ((y : ℤ) × (Holds a x y × Holds b x y))

-- neither ends before the other begins, in either direction
abbrev pub overlaps : BoxValue → BoxValue → Bool
overlaps a b = int_le a.x0 b.x1 && (int_le b.x0 a.x1 && (int_le a.y0 b.y1 && int_le b.y0 a.y1))

-- each point of the one box lies in the other
abbrev pub IsWithin : BoxValue → BoxValue → Type 0
IsWithin a b = (x y : ℤ) → Holds a x y → Holds b x y

-- the one box does not reach beyond the other in any direction
abbrev pub is_within : BoxValue → BoxValue → Bool
is_within a b = int_le b.x0 a.x0 && (int_le a.x1 b.x1 && (int_le b.y0 a.y0 && int_le a.y1 b.y1))
