-- The test of a geometry against a box is true exactly if the relation holds.
use Rattle.std.specs.Prelude.{◌%◌, ◌≤ℤ◌, int_le, List}
use Rattle.std.specs.Bool.{Decides}
use Rattle.std.specs.List.{list_any}
use Rattle.std.proofs.lemmas.Bool.Decides.{Decides-and, Decides-or, Decides-like, Decides-eqb}
use Rattle.streetmap_grid.specs.Values.{PositionValue, BoxValue, SimpleValue, GeometryValue, point, multi_point, line_string, multi_line_string, polygon, multi_polygon, simple, collection}
use Rattle.streetmap_grid.specs.Edges.{edges}
use Rattle.streetmap_grid.specs.Crossings.{all_crossings, is_inside}
use Rattle.streetmap_grid.specs.Meeting.{PointMeets, SegmentMeets, LineMeets, PolygonMeets, SimpleMeets, GeometryMeets, point_meets, segment_meets, line_meets, polygon_meets, simple_meets, geometry_meets}
use Rattle.streetmap_grid.proofs.Elements.{some_decides}
use Rattle.streetmap_grid.proofs.Signs.{le_decides, segment_decides}

pub point_decides : (p : PositionValue) (g : BoxValue) → Decides (point_meets p g) (PointMeets p g)
point_decides p g =
    Decides-like (point_meets p g) (λ h. (h.0, h.1.0, h.1.1.0, h.1.1.1)) (λ h. (h.0, (h.1, (h.2, h.3))))
    (Decides-and (int_le g.x0 p.x) _ (le_decides g.x0 p.x)
    (Decides-and (int_le p.x g.x1) _ (le_decides p.x g.x1)
    (Decides-and (int_le g.y0 p.y) (int_le p.y g.y1) (le_decides g.y0 p.y) (le_decides p.y g.y1))))

pub line_decides : (ps : List PositionValue) (g : BoxValue) → g.x0 ≤ℤ g.x1 → g.y0 ≤ℤ g.y1 → Decides (line_meets ps g) (LineMeets ps g)
unfolding line_meets
line_decides ps g w t = some_decides (λ e. segment_meets e.0 e.1 g) (λ e. SegmentMeets e.0 e.1 g) (λ e. segment_decides e.0 e.1 g w t) (edges ps)

pub polygon_decides : (rings : List (List PositionValue)) (g : BoxValue) → g.x0 ≤ℤ g.x1 → g.y0 ≤ℤ g.y1 → Decides (polygon_meets rings g) (PolygonMeets rings g)
unfolding polygon_meets
polygon_decides rings g w t =
    Decides-or (list_any (λ r. line_meets r g) rings) (is_inside g.x0 g.y0 rings)
    (some_decides (λ r. line_meets r g) (λ r. LineMeets r g) (λ r. line_decides r g w t) rings)
    (Decides-eqb (all_crossings g.x0 g.y0 rings % 2) 1)

pub simple_decides : (s : SimpleValue) (g : BoxValue) → g.x0 ≤ℤ g.x1 → g.y0 ≤ℤ g.y1 → Decides (simple_meets s g) (SimpleMeets s g)
unfolding simple_meets
simple_decides (point p) g w t = point_decides p g
simple_decides (multi_point ps) g w t = some_decides (λ p. point_meets p g) (λ p. PointMeets p g) (λ p. point_decides p g) ps
simple_decides (line_string ps) g w t = line_decides ps g w t
simple_decides (multi_line_string ls) g w t = some_decides (λ l. line_meets l g) (λ l. LineMeets l g) (λ l. line_decides l g w t) ls
simple_decides (polygon rings) g w t = polygon_decides rings g w t
simple_decides (multi_polygon ps) g w t = some_decides (λ p. polygon_meets p g) (λ p. PolygonMeets p g) (λ p. polygon_decides p g w t) ps

pub geometry_decides : (v : GeometryValue) (g : BoxValue) → g.x0 ≤ℤ g.x1 → g.y0 ≤ℤ g.y1 → Decides (geometry_meets v g) (GeometryMeets v g)
unfolding geometry_meets
geometry_decides (simple s) g w t = simple_decides s g w t
geometry_decides (collection ss) g w t = some_decides (λ s. simple_meets s g) (λ s. SimpleMeets s g) (λ s. simple_decides s g w t) ss
