-- A geometry whose extent lies within a box meets that box.
use Rattle.std.specs.Prelude.{pos, ◌≤◌, ◌≤ℤ◌, int_le, List, [], ◌∷◌, length, All}
use Rattle.std.specs.Bool.{Decides}
use Rattle.std.specs.List.{AllByRecursion}
use Rattle.std.proofs.Common.{arith, inl}
use Rattle.std.proofs.lemmas.Bool.Decides.{Decides-and, Decides-like}
use Rattle.std.proofs.lemmas.Int.{ints}
use Rattle.std.proofs.lemmas.List.Elements.{recursion_from_All}
use Rattle.streetmap_grid.specs.Values.{PositionValue, BoxValue, SimpleValue, GeometryValue, point, multi_point, line_string, multi_line_string, polygon, multi_polygon, simple, collection}
use Rattle.streetmap_grid.specs.Some.{SomeOf}
use Rattle.streetmap_grid.specs.Meeting.{Holds, SegmentMeets, LineMeets, PolygonMeets, SimpleMeets, GeometryMeets}
use Rattle.streetmap_grid.specs.Extent.{polygon_vertices, simple_vertices, vertices, IsWithin, is_within}
use Rattle.streetmap_grid.specs.WellFormed.{IsLine, IsRing, IsPolygon, IsSimple, IsGeometry}
use Rattle.streetmap_grid.proofs.Signs.{le_decides}
use Rattle.streetmap_grid.proofs.Overlapping.{HoldsPosition, IsOrdered, each_held, zip_all}

-- ---- boxes

-- one reaches beyond the other in no direction
abbrev pub Encloses : BoxValue → BoxValue → Type 0
Encloses a b = (b.x0 ≤ℤ a.x0) × (a.x1 ≤ℤ b.x1) × (b.y0 ≤ℤ a.y0) × (a.y1 ≤ℤ b.y1)

points_within : (a b : BoxValue) → Encloses a b → IsWithin a b
points_within a b e x y h = (omega (arith, ints, e, h), omega (arith, ints, e, h), omega (arith, ints, e, h), omega (arith, ints, e, h))

corners_within : (a b : BoxValue) → IsOrdered a → IsWithin a b → Encloses a b
corners_within a b o w =
    let low : Holds b a.x0 a.y0 = w a.x0 a.y0 (omega (arith, ints), o.0, omega (arith, ints), o.1) in
    let high : Holds b a.x1 a.y1 = w a.x1 a.y1 (o.0, omega (arith, ints), o.1, omega (arith, ints)) in
    (low.0, high.1, low.2, high.3)

pub within_decides : (a b : BoxValue) → IsOrdered a → Decides (is_within a b) (IsWithin a b)
within_decides a b o =
    Decides-like (is_within a b) (λ h. points_within a b (h.0, h.1.0, h.1.1.0, h.1.1.1)) (λ h. let e = corners_within a b o h in (e.0, (e.1, (e.2, e.3))))
    (Decides-and (int_le b.x0 a.x0) _ (le_decides b.x0 a.x0)
    (Decides-and (int_le a.x1 b.x1) _ (le_decides a.x1 b.x1)
    (Decides-and (int_le b.y0 a.y0) (int_le a.y1 b.y1) (le_decides b.y0 a.y0) (le_decides a.y1 b.y1))))

-- ---- geometries, all of whose positions lie in the box

-- the first point of a segment is on it
segment_begins : (g : BoxValue) (a b : PositionValue) → HoldsPosition g a → SegmentMeets a b g
segment_begins g a b h =
    (pos 0, (pos 1, (omega (arith, ints), omega (arith, ints), omega (arith, ints), (omega (arith, ints, h), omega (arith, ints, h)), (omega (arith, ints, h), omega (arith, ints, h)))))

line_meets_by : (g : BoxValue) (ps : List PositionValue) → 2 ≤ length ps → AllByRecursion (HoldsPosition g) ps → LineMeets ps g
line_meets_by g [] two h = absurd (omega arith)
line_meets_by g (a ∷ []) two h = absurd (omega arith)
line_meets_by g (a ∷ b ∷ ps) two h = inl (segment_begins g a b h.0)

-- the first of a list that is not empty
first_does : {X : Type 0} (V P : X → Type 0) → ((x : X) → V x → P x) → (xs : List X) → 1 ≤ length xs → AllByRecursion V xs → SomeOf P xs
first_does V P f [] one h = absurd (omega arith)
first_does V P f (x ∷ xs) one h = inl (f x h.0)

polygon_meets_by : (g : BoxValue) (rings : List (List PositionValue)) → IsPolygon rings → AllByRecursion (HoldsPosition g) (polygon_vertices rings) → PolygonMeets rings g
polygon_meets_by g rings w h =
    inl (first_does (λ r. IsRing r × AllByRecursion (HoldsPosition g) r) (λ r. LineMeets r g) (λ r k. line_meets_by g r (omega (arith, k.0.1)) k.1) rings w.1
    (zip_all IsRing (AllByRecursion (HoldsPosition g)) rings (recursion_from_All IsRing rings w.0) (each_held (HoldsPosition g) (λ ring. ring) rings h)))

simple_meets_by : (g : BoxValue) (s : SimpleValue) → IsSimple s → AllByRecursion (HoldsPosition g) (simple_vertices s) → SimpleMeets s g
simple_meets_by g (point p) w h = h.0
simple_meets_by g (multi_point ps) w h = first_does (HoldsPosition g) (HoldsPosition g) (λ p k. k) ps w.1 h
simple_meets_by g (line_string ps) w h = line_meets_by g ps w.1 h
simple_meets_by g (multi_line_string ls) w h =
    first_does (λ l. IsLine l × AllByRecursion (HoldsPosition g) l) (λ l. LineMeets l g) (λ l k. line_meets_by g l k.0.1 k.1) ls w.1
    (zip_all IsLine (AllByRecursion (HoldsPosition g)) ls (recursion_from_All IsLine ls w.0) (each_held (HoldsPosition g) (λ line. line) ls h))
simple_meets_by g (polygon rings) w h = polygon_meets_by g rings w h
simple_meets_by g (multi_polygon ps) w h =
    first_does (λ p. IsPolygon p × AllByRecursion (HoldsPosition g) (polygon_vertices p)) (λ p. PolygonMeets p g) (λ p k. polygon_meets_by g p k.0 k.1) ps w.1
    (zip_all IsPolygon (λ p. AllByRecursion (HoldsPosition g) (polygon_vertices p)) ps (recursion_from_All IsPolygon ps w.0) (each_held (HoldsPosition g) polygon_vertices ps h))

geometry_meets_by : (g : BoxValue) (v : GeometryValue) → IsGeometry v → AllByRecursion (HoldsPosition g) (vertices v) → GeometryMeets v g
geometry_meets_by g (simple s) w h = simple_meets_by g s w h
geometry_meets_by g (collection ss) w h =
    first_does (λ s. IsSimple s × AllByRecursion (HoldsPosition g) (simple_vertices s)) (λ s. SimpleMeets s g) (λ s k. simple_meets_by g s k.0 k.1) ss w.1
    (zip_all IsSimple (λ s. AllByRecursion (HoldsPosition g) (simple_vertices s)) ss (recursion_from_All IsSimple ss w.0) (each_held (HoldsPosition g) simple_vertices ss h))

all_within : (e g : BoxValue) → IsWithin e g → (ps : List PositionValue) → AllByRecursion (HoldsPosition e) ps → AllByRecursion (HoldsPosition g) ps
all_within e g w [] h = tt
all_within e g w (p ∷ ps) h = (w p.x p.y h.0, all_within e g w ps h.1)

-- for any box that holds all vertices
pub geometry_within : (e g : BoxValue) (v : GeometryValue) → IsGeometry v → All (λ p. Holds e p.x p.y) (vertices v) → IsWithin e g → GeometryMeets v g
geometry_within e g v w h inside = geometry_meets_by g v w (all_within e g inside (vertices v) (recursion_from_All (HoldsPosition e) (vertices v) h))
