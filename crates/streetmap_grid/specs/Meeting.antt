-- What meets a box: a relation by fractions of edges, and a test by signs.
use Rattle.std.specs.Prelude.{ℤ, pos, ◌+ℤ◌, ◌-ℤ◌, ◌*ℤ◌, ◌≤ℤ◌, int_le, Bool, ◌&&◌, ◌||◌, ◌⊎◌, List}
use Rattle.std.specs.Prelude.{[], ◌∷◌}
use Rattle.std.specs.List.{list_any}
use Rattle.std.specs.Int.{int_max, int_min}
use Rattle.streetmap_grid.specs.Values.{PositionValue, BoxValue, SimpleValue, GeometryValue, point}
use Rattle.streetmap_grid.specs.Values.{multi_point, line_string, multi_line_string, polygon}
use Rattle.streetmap_grid.specs.Values.{multi_polygon, simple, collection}
use Rattle.streetmap_grid.specs.Edges.{edges}
use Rattle.streetmap_grid.specs.Some.{SomeOf}
use Rattle.streetmap_grid.specs.Crossings.{side, IsInside, is_inside}

-- ---- the relation

-- (x, y) lies in the closed box
abbrev pub Holds : BoxValue → (x y : ℤ) → Type 0
Holds g x y = (g.x0 ≤ℤ x) × (x ≤ℤ g.x1) × (g.y0 ≤ℤ y) × (y ≤ℤ g.y1)

-- a position meets a box that it lies in
abbrev pub PointMeets : PositionValue → BoxValue → Type 0
PointMeets p g = Holds g p.x p.y

-- what lies p/q of the way from a to b is at least low and at most high
abbrev pub IsWithinAt : (p q a b low high : ℤ) → Type 0
IsWithinAt p q a b low high =
    ((q *ℤ low) ≤ℤ ((q -ℤ p) *ℤ a +ℤ p *ℤ b))
    × (((q -ℤ p) *ℤ a +ℤ p *ℤ b) ≤ℤ (q *ℤ high))

-- a segment meets a box if the point p/q of the way from its one end to its other lies in it, for
-- some fraction p/q from 0 to 1
abbrev pub SegmentMeets : (a b : PositionValue) → BoxValue → Type 0
SegmentMeets a b g =
    (p : ℤ)
    × ((q : ℤ)
    × ((pos 1 ≤ℤ q)
    × (pos 0 ≤ℤ p)
    × (p ≤ℤ q)
    × IsWithinAt p q a.x b.x g.x0 g.x1
    × IsWithinAt p q a.y b.y g.y0 g.y1))

-- a line meets a box if one of its segments does
abbrev pub LineMeets : List PositionValue → BoxValue → Type 0
LineMeets ps g = SomeOf (λ e. SegmentMeets e.0 e.1 g) (edges ps)

-- a polygon meets a box if an edge of any of its rings does, or if the box's south-western corner
-- is inside
abbrev pub PolygonMeets : List (List PositionValue) → BoxValue → Type 0
PolygonMeets rings g = SomeOf (λ r. LineMeets r g) rings ⊎ IsInside g.x0 g.y0 rings

-- each kind by its rule; a list meets a box if a member does
abbrev pub SimpleMeets : SimpleValue → BoxValue → Type 0
SimpleMeets (point p) g = PointMeets p g
SimpleMeets (multi_point ps) g = SomeOf (λ p. PointMeets p g) ps
SimpleMeets (line_string ps) g = LineMeets ps g
SimpleMeets (multi_line_string ls) g = SomeOf (λ l. LineMeets l g) ls
SimpleMeets (polygon rings) g = PolygonMeets rings g
SimpleMeets (multi_polygon ps) g = SomeOf (λ p. PolygonMeets p g) ps

-- a collection meets a box if a member does
abbrev pub GeometryMeets : GeometryValue → BoxValue → Type 0
GeometryMeets (simple s) g = SimpleMeets s g
GeometryMeets (collection ss) g = SomeOf (λ s. SimpleMeets s g) ss

-- ---- the test

-- a position lies in the closed box
abbrev pub point_meets : PositionValue → BoxValue → Bool
point_meets p g = int_le g.x0 p.x && (int_le p.x g.x1 && (int_le g.y0 p.y && int_le p.y g.y1))

-- the range of two numbers has a number in common with that from low to high
abbrev pub reaches : (a b low high : ℤ) → Bool
reaches a b low high = int_le low (int_max a b) && int_le (int_min a b) high

-- the four corners of a box
abbrev pub corners : BoxValue → List (ℤ × ℤ)
corners g = (g.x0, g.y0) ∷ ((g.x1, g.y0) ∷ ((g.x1, g.y1) ∷ ((g.x0, g.y1) ∷ [])))

-- the ranges of the ends reach into the box, whose corners do not all lie on one side of the line
unfoldable pub segment_meets : (a b : PositionValue) → BoxValue → Bool
segment_meets a b g =
    reaches a.x b.x g.x0 g.x1
    && (reaches a.y b.y g.y0 g.y1
    && (list_any (λ c. int_le (pos 0) (side a b c.0 c.1)) (corners g)
    && list_any (λ c. int_le (side a b c.0 c.1) (pos 0)) (corners g)))

-- some segment of a line does
unfoldable pub line_meets : List PositionValue → BoxValue → Bool
line_meets ps g = list_any (λ e. segment_meets e.0 e.1 g) (edges ps)

-- some edge of some ring of a polygon does, or the south-western corner is inside
unfoldable pub polygon_meets : List (List PositionValue) → BoxValue → Bool
polygon_meets rings g = list_any (λ r. line_meets r g) rings || is_inside g.x0 g.y0 rings

-- each kind by its rule, a list if a member does
unfoldable pub simple_meets : SimpleValue → BoxValue → Bool
simple_meets (point p) g = point_meets p g
simple_meets (multi_point ps) g = list_any (λ p. point_meets p g) ps
simple_meets (line_string ps) g = line_meets ps g
simple_meets (multi_line_string ls) g = list_any (λ l. line_meets l g) ls
simple_meets (polygon rings) g = polygon_meets rings g
simple_meets (multi_polygon ps) g = list_any (λ p. polygon_meets p g) ps

-- the test of a geometry, true exactly if the relation holds; a collection if a member does
unfoldable pub geometry_meets : GeometryValue → BoxValue → Bool
geometry_meets (simple s) g = simple_meets s g
geometry_meets (collection ss) g = list_any (λ s. simple_meets s g) ss
