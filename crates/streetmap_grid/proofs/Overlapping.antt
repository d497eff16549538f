-- What meets a box has an extent that overlaps it.
use Rattle.std.specs.Prelude.{ℕ, ◌++◌, ◌%◌, ℤ, pos, neg_ℤ, ◌+ℤ◌, ◌-ℤ◌, ◌*ℤ◌, ◌≤ℤ◌, ◌<ℤ◌, int_le, ◌≡◌, List, [], ◌∷◌, All, IsTrue}
use Rattle.std.specs.Bool.{Decides}
use Rattle.std.specs.Int.{int_max}
use Rattle.std.specs.List.{AllByRecursion, sum_by, flat_map}
use Rattle.std.proofs.Common.{sym, ap, arith, inl, inr}
use Rattle.std.proofs.lemmas.Bool.Decides.{Decides-and, Decides-like}
use Rattle.std.proofs.lemmas.Int.{ints, clamps, by_lt_z}
use Rattle.std.proofs.lemmas.List.Elements.{recursion_from_All}
use lib.IntN.{*ℤ_comm}
use Rattle.streetmap_grid.specs.Values.{PositionValue, BoxValue, SimpleValue, GeometryValue, point, multi_point, line_string, multi_line_string, polygon, multi_polygon, simple, collection}
use Rattle.streetmap_grid.specs.Edges.{edges_from}
use Rattle.streetmap_grid.specs.Some.{SomeOf}
use Rattle.streetmap_grid.specs.Ring.{last_from, is_closed}
use Rattle.streetmap_grid.specs.Crossings.{crossings, IsInside}
use Rattle.streetmap_grid.specs.Meeting.{Holds, IsWithinAt, PointMeets, SegmentMeets, LineMeets, PolygonMeets, SimpleMeets, GeometryMeets}
use Rattle.streetmap_grid.specs.Extent.{polygon_vertices, simple_vertices, vertices, Overlaps, overlaps}
use Rattle.streetmap_grid.specs.WellFormed.{IsRing, IsPolygon, IsSimple, IsGeometry}
use Rattle.streetmap_grid.proofs.Whole.{mul_mono, mul_cancel, mul-add, mul-neg}
use Rattle.streetmap_grid.proofs.Closing.{same_equal}
use Rattle.streetmap_grid.proofs.Signs.{le_decides}
use Rattle.streetmap_grid.proofs.Parity.{IsEven, EndsLevel, IsOutside, rings_even}
use Rattle.streetmap_grid.proofs.Growing.{weaken}

abbrev pub HoldsPosition : BoxValue → PositionValue → Type 0
HoldsPosition e p = Holds e p.x p.y

-- neither ends before the other begins, in either direction
abbrev pub Reach : BoxValue → BoxValue → Type 0
Reach e g = (e.x0 ≤ℤ g.x1) × (g.x0 ≤ℤ e.x1) × (e.y0 ≤ℤ g.y1) × (g.y0 ≤ℤ e.y1)

abbrev pub IsOrdered : BoxValue → Type 0
IsOrdered g = (g.x0 ≤ℤ g.x1) × (g.y0 ≤ℤ g.y1)

common : (e g : BoxValue) → IsOrdered e → IsOrdered g → Reach e g → Overlaps e g
common e g o o' r = (
  int_max e.x0 g.x0,
  (
    int_max e.y0 g.y0,
    (
      (omega (arith, ints, clamps, o, o', r), omega (arith, ints, clamps, o, o', r), omega (arith, ints, clamps, o, o', r), omega (arith, ints, clamps, o, o', r)),
      (omega (arith, ints, clamps, o, o', r), omega (arith, ints, clamps, o, o', r), omega (arith, ints, clamps, o, o', r), omega (arith, ints, clamps, o, o', r)),
    ),
  ),
)

reach : (e g : BoxValue) → Overlaps e g → Reach e g
reach e g (x, (y, (h, k))) = (omega (arith, ints, h, k), omega (arith, ints, h, k), omega (arith, ints, h, k), omega (arith, ints, h, k))

pub overlaps_decides : (a b : BoxValue) → IsOrdered a → IsOrdered b → Decides (overlaps a b) (Overlaps a b)
overlaps_decides a b o o' =
    Decides-like (overlaps a b) (λ h. common a b o o' (h.0, h.1.0, h.1.1.0, h.1.1.1)) (λ h. let r = reach a b h in (r.0, (r.1, (r.2, r.3))))
    (Decides-and (int_le a.x0 b.x1) _ (le_decides a.x0 b.x1)
    (Decides-and (int_le b.x0 a.x1) _ (le_decides b.x0 a.x1)
    (Decides-and (int_le a.y0 b.y1) (int_le b.y0 a.y1) (le_decides a.y0 b.y1) (le_decides b.y0 a.y1))))

-- ---- segments
whole : (p q h : ℤ) → ((q -ℤ p) *ℤ h) +ℤ (p *ℤ h) ≡ q *ℤ h
whole p q h = omega (arith, ints, *ℤ_comm (q -ℤ p) h, mul-add h q (neg_ℤ p), mul-neg h p)

-- what lies between two numbers lies within their bounds
between : (p q a b lo hi l h : ℤ) → pos 1 ≤ℤ q → pos 0 ≤ℤ p → p ≤ℤ q → l ≤ℤ a → a ≤ℤ h → l ≤ℤ b → b ≤ℤ h → IsWithinAt p q a b lo hi → (l ≤ℤ hi) × (lo ≤ℤ h)
between p q a b lo hi l h hq hp hpq la ah lb bh w =
    let r : pos 0 ≤ℤ (q -ℤ p) = omega (arith, ints) in
    let s : ((q -ℤ p) *ℤ h) +ℤ (p *ℤ h) ≡ q *ℤ h = whole p q h in
    let t : ((q -ℤ p) *ℤ l) +ℤ (p *ℤ l) ≡ q *ℤ l = whole p q l in
    let up : (q *ℤ lo) ≤ℤ (q *ℤ h) = omega (arith, ints, w.0, mul_mono (q -ℤ p) a h r ah, mul_mono p b h hp bh, s) in
    let dn : (q *ℤ l) ≤ℤ (q *ℤ hi) = omega (arith, ints, w.1, mul_mono (q -ℤ p) l a r la, mul_mono p l b hp lb, t) in
    (mul_cancel q l hi hq dn, mul_cancel q lo h hq up)

ordered_by : (e : BoxValue) (p : PositionValue) → HoldsPosition e p → IsOrdered e
ordered_by e p h = (omega (arith, ints, h), omega (arith, ints, h))

segment_overlaps : (e g : BoxValue) → IsOrdered g → (a b : PositionValue) → HoldsPosition e a → HoldsPosition e b → SegmentMeets a b g → Overlaps e g
segment_overlaps e g o a b ha hb (p, (q, h)) =
    let x = between p q a.x b.x g.x0 g.x1 e.x0 e.x1 h.0 h.1 h.2 ha.0 ha.1 hb.0 hb.1 h.3 in
    let y = between p q a.y b.y g.y0 g.y1 e.y0 e.y1 h.0 h.1 h.2 ha.2 ha.3 hb.2 hb.3 h.4 in
    common e g (ordered_by e a ha) o (x.0, x.1, y.0, y.1)

edges_overlap : (e g : BoxValue) → IsOrdered g → (a : PositionValue) (bs : List PositionValue) → HoldsPosition e a → AllByRecursion (HoldsPosition e) bs → SomeOf (λ s. SegmentMeets s.0 s.1 g) (edges_from a bs) → Overlaps e g
edges_overlap e g o a [] h hs m = absurd m
edges_overlap e g o a (b ∷ bs) h hs (inl m) = segment_overlaps e g o a b h hs.0 m
edges_overlap e g o a (b ∷ bs) h hs (inr m) = edges_overlap e g o b bs hs.0 hs.1 m

line_overlaps : (e g : BoxValue) → IsOrdered g → (ps : List PositionValue) → AllByRecursion (HoldsPosition e) ps → LineMeets ps g → Overlaps e g
line_overlaps e g o [] h m = absurd m
line_overlaps e g o (a ∷ bs) h m = edges_overlap e g o a bs h.0 h.1 m

-- some member does, and each that does overlaps
some_overlaps : {X : Type 0} (P : X → Type 0) (V : X → Type 0) (Q : Type 0) → ((x : X) → V x → P x → Q) → (xs : List X) → AllByRecursion V xs → SomeOf P xs → Q
some_overlaps P V Q f [] h m = absurd m
some_overlaps P V Q f (x ∷ xs) h (inl m) = f x h.0 m
some_overlaps P V Q f (x ∷ xs) h (inr m) = some_overlaps P V Q f xs h.1 m

-- ---- the corner, by parity

not_both : (n : ℕ) → IsEven n → n % 2 ≡ 1 → ⊥
not_both n (k, e) o = omega arith

-- a closed ring ends at the northing at which it began
pub closed_level : (ps : List PositionValue) → IsTrue (is_closed ps) → EndsLevel ps
closed_level [] h = tt
closed_level (a ∷ bs) h = ap (λ (p : PositionValue). p.y) (sym (same_equal a (last_from a bs) h))

abbrev pub AllClosed : List (List PositionValue) → Type 0
AllClosed rings = AllByRecursion (λ r. IsTrue (is_closed r)) rings

outside_all : (e : BoxValue) (x y : ℤ) (V : PositionValue → Type 0) → ((ps : List PositionValue) → AllByRecursion V ps → IsOutside x y ps) → ((p : PositionValue) → HoldsPosition e p → V p) → (rings : List (List PositionValue)) → AllByRecursion (AllByRecursion (HoldsPosition e)) rings → AllByRecursion (IsOutside x y) rings
outside_all e x y V f g rings h = weaken (AllByRecursion (HoldsPosition e)) (IsOutside x y) (λ ps k. f ps (weaken (HoldsPosition e) V g ps k)) rings h

-- a point outside of a box that holds all positions of closed rings is not inside of them
pub outside_apart : (rings : List (List PositionValue)) (x y : ℤ) → AllClosed rings → AllByRecursion (IsOutside x y) rings → IsInside x y rings → ⊥
outside_apart rings x y c o i =
    not_both (sum_by (crossings x y) rings) (rings_even x y (λ (r : List PositionValue). r) rings (weaken (λ r. IsTrue (is_closed r)) EndsLevel closed_level rings c) o) i

pub inside_held : (e : BoxValue) (rings : List (List PositionValue)) (x y : ℤ) → AllClosed rings → AllByRecursion (AllByRecursion (HoldsPosition e)) rings → IsInside x y rings → Holds e x y
inside_held e rings x y c h i = (
  by_lt_z x e.x0
      (λ (s : x <ℤ e.x0). absurd (outside_apart rings x y c (outside_all e x y (λ p. x <ℤ p.x) (λ ps k. inl k) (λ p w. omega (arith, ints, w.0)) rings h) i))
      (λ (s : e.x0 ≤ℤ x). s),
  by_lt_z e.x1 x
      (λ (s : e.x1 <ℤ x). absurd (outside_apart rings x y c (outside_all e x y (λ p. p.x ≤ℤ x) (λ ps k. inr (inl k)) (λ p w. omega (arith, ints, w.1)) rings h) i))
      (λ (s : x ≤ℤ e.x1). s),
  by_lt_z y e.y0
      (λ (s : y <ℤ e.y0). absurd (outside_apart rings x y c (outside_all e x y (λ p. y <ℤ p.y) (λ ps k. inr (inr (inr k))) (λ p w. omega (arith, ints, w.2)) rings h) i))
      (λ (s : e.y0 ≤ℤ y). s),
  by_lt_z e.y1 y
      (λ (s : e.y1 <ℤ y). absurd (outside_apart rings x y c (outside_all e x y (λ p. p.y ≤ℤ y) (λ ps k. inr (inr (inl k))) (λ p w. omega (arith, ints, w.3)) rings h) i))
      (λ (s : y ≤ℤ e.y1). s),
)

rings_overlap : (e g : BoxValue) → IsOrdered g → (rings : List (List PositionValue)) → AllClosed rings → AllByRecursion (AllByRecursion (HoldsPosition e)) rings → PolygonMeets rings g → Overlaps e g
rings_overlap e g o rings c h (inl m) = some_overlaps (λ r. LineMeets r g) (AllByRecursion (HoldsPosition e)) (Overlaps e g) (λ r k l. line_overlaps e g o r k l) rings h m
rings_overlap e g o rings c h (inr i) = (g.x0, (g.y0, (inside_held e rings g.x0 g.y0 c h i, (omega (arith, ints, o), o.0, omega (arith, ints, o), o.1))))

-- ---- the kinds
split : {X : Type 0} (P : X → Type 0) (xs ys : List X) → AllByRecursion P (xs ++ ys) → AllByRecursion P xs × AllByRecursion P ys
split P [] ys h = (tt, h)
split P (x ∷ xs) ys h = let r = split P xs ys h.1 in ((h.0, r.0), r.1)

pub each_held : {X Y : Type 0} (P : Y → Type 0) (f : X → List Y) (xs : List X) → AllByRecursion P (flat_map f xs) → AllByRecursion (λ x. AllByRecursion P (f x)) xs
each_held P f [] h = tt
each_held P f (x ∷ xs) h = let r = split P (f x) (flat_map f xs) h in (r.0, each_held P f xs r.1)

pub all_closed : (rings : List (List PositionValue)) → IsPolygon rings → AllClosed rings
all_closed rings h = weaken IsRing (λ r. IsTrue (is_closed r)) (λ r k. k.2) rings (recursion_from_All IsRing rings h.0)

polygon_overlaps : (e g : BoxValue) → IsOrdered g → (rings : List (List PositionValue)) → IsPolygon rings → AllByRecursion (HoldsPosition e) (polygon_vertices rings) → PolygonMeets rings g → Overlaps e g
polygon_overlaps e g o rings w h m = rings_overlap e g o rings (all_closed rings w) (each_held (HoldsPosition e) (λ ring. ring) rings h) m

pub zip_all : {X : Type 0} (V W : X → Type 0) (xs : List X) → AllByRecursion V xs → AllByRecursion W xs → AllByRecursion (λ x. V x × W x) xs
zip_all V W [] h k = tt
zip_all V W (x ∷ xs) h k = ((h.0, k.0), zip_all V W xs h.1 k.1)

simple_overlaps : (e g : BoxValue) → IsOrdered g → (s : SimpleValue) → IsSimple s → AllByRecursion (HoldsPosition e) (simple_vertices s) → SimpleMeets s g → Overlaps e g
simple_overlaps e g o (point p) w h m = (p.x, (p.y, (h.0, m)))
simple_overlaps e g o (multi_point ps) w h m = some_overlaps (λ p. PointMeets p g) (HoldsPosition e) (Overlaps e g) (λ p k l. (p.x, (p.y, (k, l)))) ps h m
simple_overlaps e g o (line_string ps) w h m = line_overlaps e g o ps h m
simple_overlaps e g o (multi_line_string ls) w h m =
    some_overlaps (λ l. LineMeets l g) (AllByRecursion (HoldsPosition e)) (Overlaps e g) (λ l k m. line_overlaps e g o l k m) ls (each_held (HoldsPosition e) (λ line. line) ls h) m
simple_overlaps e g o (polygon rings) w h m = polygon_overlaps e g o rings w h m
simple_overlaps e g o (multi_polygon ps) w h m =
    some_overlaps (λ p. PolygonMeets p g) (λ p. IsPolygon p × AllByRecursion (HoldsPosition e) (polygon_vertices p)) (Overlaps e g) (λ p k m. polygon_overlaps e g o p k.0 k.1 m) ps
    (zip_all IsPolygon (λ p. AllByRecursion (HoldsPosition e) (polygon_vertices p)) ps (recursion_from_All IsPolygon ps w.0) (each_held (HoldsPosition e) polygon_vertices ps h)) m

-- for any box that holds all vertices
geometry_overlaps_by : (e g : BoxValue) → IsOrdered g → (v : GeometryValue) → IsGeometry v → AllByRecursion (HoldsPosition e) (vertices v) → GeometryMeets v g → Overlaps e g
geometry_overlaps_by e g o (simple s) w h m = simple_overlaps e g o s w h m
geometry_overlaps_by e g o (collection ss) w h m =
    some_overlaps (λ s. SimpleMeets s g) (λ s. IsSimple s × AllByRecursion (HoldsPosition e) (simple_vertices s)) (Overlaps e g) (λ s k m. simple_overlaps e g o s k.0 k.1 m) ss
    (zip_all IsSimple (λ s. AllByRecursion (HoldsPosition e) (simple_vertices s)) ss (recursion_from_All IsSimple ss w.0) (each_held (HoldsPosition e) simple_vertices ss h)) m

pub geometry_overlaps : (e g : BoxValue) → IsOrdered g → (v : GeometryValue) → IsGeometry v → All (λ p. Holds e p.x p.y) (vertices v) → GeometryMeets v g → Overlaps e g
geometry_overlaps e g o v w h m = geometry_overlaps_by e g o v w (recursion_from_All (HoldsPosition e) (vertices v) h) m
