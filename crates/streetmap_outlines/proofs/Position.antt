-- A geometry with a position in a box meets it. Three bounds of its extent in the box show one.
use Rattle.std.specs.Prelude.{ℕ, ℤ, pos, ◌+◌, ◌≤◌, ◌≤ℤ◌, ◌≡◌, ◌⊎◌, List, [], ◌∷◌, ◌++◌, length, Bool, true, cond, nat_le}
use Rattle.std.specs.List.{AllByRecursion, flat_map, count_by}
use Rattle.std.proofs.Common.{arith, inl, inr, Option, None, Some, option_map, subst}
use Rattle.std.proofs.lemmas.Bool.{and_parts, leb-true}
use Rattle.std.proofs.lemmas.Int.{ints}
use Rattle.std.proofs.lemmas.List.Elements.{recursion_from_All}
use Rattle.streetmap_grid.specs.Values.{PositionValue, BoxValue, SimpleValue, GeometryValue, point, multi_point, line_string, multi_line_string, polygon}
use Rattle.streetmap_grid.specs.Values.{multi_polygon, simple, collection}
use Rattle.streetmap_grid.specs.Views.{box_value}
use Rattle.streetmap_grid.specs.declared.grid_box.GridBox.{GridBox}
use Rattle.streetmap_grid.specs.Some.{SomeOf}
use Rattle.streetmap_grid.specs.Edges.{edges_from}
use Rattle.streetmap_grid.specs.Meeting.{Holds, SegmentMeets, LineMeets, PolygonMeets, SimpleMeets, GeometryMeets, geometry_meets}
use Rattle.streetmap_grid.specs.Extent.{IsExtent, polygon_vertices, simple_vertices, vertices, extent_of}
use Rattle.streetmap_grid.specs.WellFormed.{IsLine, IsRing, IsPolygon, IsSimple, IsGeometry}
use Rattle.streetmap_grid.proofs.Facts.{box_facts}
use Rattle.streetmap_grid.proofs.Growing.{extent_is}
use Rattle.streetmap_grid.proofs.Deciding.{geometry_decides}
use Rattle.streetmap_grid.proofs.Overlapping.{HoldsPosition}
use Rattle.streetmap_geojson.specs.FeatureInvariant.{IsGeometryIf}
use Rattle.streetmap_ledger.specs.Pages.{passes}
use Rattle.streetmap_cells.specs.Envelopes.{IsFromCorner, IsEnvelopeOf}
use Rattle.streetmap_cells.specs.declared.envelope.Envelope.{Envelope}
use Rattle.streetmap_outlines.specs.Within.{is_between, HasThreeBoundsIn}

-- ---- three bounds
-- a number lies between two others, or is one of them
abbrev Lies : (low high at : ℤ) → Type 0
Lies low high at = (low ≤ℤ at) × (at ≤ℤ high)

-- so it does counted from the corner of the grid
lies : (low high at : ℕ) (a b c : ℤ) → IsFromCorner low a → IsFromCorner high b → IsFromCorner at c → is_between low high at ≡ true → Lies a b c
lies low high at a b c is is' is'' h =
    let both = and_parts (nat_le low at) (nat_le at high) h in
    let from = leb-true low at both.0 in
    let to = leb-true at high both.1 in (
      omega (arith, ints, is, is'', from),
      omega (arith, ints, is', is'', to),
    )

count_two : (p : ℕ → Bool) (a b : ℕ) → count_by p (a ∷ b ∷ []) ≡ cond (p a) 1 0 + cond (p b) 1 0
count_two p a b = omega arith

-- of four tests three hold: both of one pair, and one of the other
three_of_four : (a b c d : Bool) → 3 ≤ (cond a 1 0 + cond b 1 0) + (cond c 1 0 + cond d 1 0)
    → ((a ≡ true) × (b ≡ true) × ((c ≡ true) ⊎ (d ≡ true))) ⊎ ((c ≡ true) × (d ≡ true) × ((a ≡ true) ⊎ (b ≡ true)))
three_of_four a b c d h = grind arith

either : {A B C D : Type 0} → (A → C) → (B → D) → A ⊎ B → C ⊎ D
either f g (inl a) = inl (f a)
either f g (inr b) = inr (g b)

-- ---- some element
some_split : {X : Type 0} (P : X → Type 0) (xs ys : List X) → SomeOf P (xs ++ ys) → SomeOf P xs ⊎ SomeOf P ys
some_split P [] ys s = inr s
some_split P (x ∷ xs) ys (inl s) = inl (inl s)
some_split P (x ∷ xs) ys (inr s) = elim (some_split P xs ys s) [ inl here ↦ inl (inr here) | inr there ↦ inr there ]

some_held : {X Y : Type 0} (P : Y → Type 0) (f : X → List Y) (xs : List X) → SomeOf P (flat_map f xs) → SomeOf (λ x. SomeOf P (f x)) xs
some_held P f [] s = absurd s
some_held P f (x ∷ xs) s = elim (some_split P (f x) (flat_map f xs) s) [ inl here ↦ inl here | inr there ↦ inr (some_held P f xs there) ]

-- what each has, one has
some_too : {X : Type 0} (V P Q : X → Type 0) → ((x : X) → V x → P x → Q x) → (xs : List X) → AllByRecursion V xs → SomeOf P xs → SomeOf Q xs
some_too V P Q f [] v s = absurd s
some_too V P Q f (x ∷ xs) v (inl s) = inl (f x v.0 s)
some_too V P Q f (x ∷ xs) v (inr s) = inr (some_too V P Q f xs v.1 s)

-- ---- geometries with a position in the box
module _ (g : BoxValue) where
  segment_begins : (a b : PositionValue) → HoldsPosition g a → SegmentMeets a b g
  segment_begins a b h = (
    pos 0,
    (
      pos 1,
      (
        omega (arith, ints),
        omega (arith, ints),
        omega (arith, ints),
        (omega (arith, ints, h), omega (arith, ints, h)),
        (omega (arith, ints, h), omega (arith, ints, h)),
      ),
    ),
  )

  segment_ends : (a b : PositionValue) → HoldsPosition g b → SegmentMeets a b g
  segment_ends a b h = (
    pos 1,
    (
      pos 1,
      (
        omega (arith, ints),
        omega (arith, ints),
        omega (arith, ints),
        (omega (arith, ints, h), omega (arith, ints, h)),
        (omega (arith, ints, h), omega (arith, ints, h)),
      ),
    ),
  )

  from_first : (a : PositionValue) (bs : List PositionValue) → 1 ≤ length bs → SomeOf (HoldsPosition g) (a ∷ bs) →
      SomeOf (λ e. SegmentMeets e.0 e.1 g) (edges_from a bs)
  from_first a [] one s = absurd (omega arith)
  from_first a (b ∷ bs) one (inl h) = inl (segment_begins a b h)
  from_first a (b ∷ []) one (inr (inl h)) = inl (segment_ends a b h)
  from_first a (b ∷ []) one (inr (inr s)) = absurd s
  from_first a (b ∷ (c ∷ cs)) one (inr s) = inr (from_first b (c ∷ cs) (omega arith) s)

  line_meets : (ps : List PositionValue) → 2 ≤ length ps → SomeOf (HoldsPosition g) ps → LineMeets ps g
  line_meets [] two s = absurd s
  line_meets (a ∷ bs) two s = from_first a bs (omega arith) s

  polygon_meets : (rings : List (List PositionValue)) → IsPolygon rings → SomeOf (HoldsPosition g) (polygon_vertices rings) → PolygonMeets rings g
  polygon_meets rings w s =
      inl (some_too IsRing (SomeOf (HoldsPosition g)) (λ r. LineMeets r g) (λ r k h. line_meets r (omega (arith, k.1)) h) rings
      (recursion_from_All IsRing rings w.0) (some_held (HoldsPosition g) (λ ring. ring) rings s))

  simple_meets : (v : SimpleValue) → IsSimple v → SomeOf (HoldsPosition g) (simple_vertices v) → SimpleMeets v g
  simple_meets (point p) w (inl h) = h
  simple_meets (point p) w (inr s) = absurd s
  simple_meets (multi_point ps) w s = s
  simple_meets (line_string ps) w s = line_meets ps w.1 s
  simple_meets (multi_line_string ls) w s =
      some_too IsLine (SomeOf (HoldsPosition g)) (λ l. LineMeets l g) (λ l k h. line_meets l k.1 h) ls (recursion_from_All IsLine ls w.0)
      (some_held (HoldsPosition g) (λ line. line) ls s)
  simple_meets (polygon rings) w s = polygon_meets rings w s
  simple_meets (multi_polygon ps) w s =
      some_too IsPolygon (λ p. SomeOf (HoldsPosition g) (polygon_vertices p)) (λ p. PolygonMeets p g) (λ p k h. polygon_meets p k h) ps
      (recursion_from_All IsPolygon ps w.0) (some_held (HoldsPosition g) polygon_vertices ps s)

  geometry_meets_at : (v : GeometryValue) → IsGeometry v → SomeOf (HoldsPosition g) (vertices v) → GeometryMeets v g
  geometry_meets_at (simple s) w h = simple_meets s w h
  geometry_meets_at (collection ss) w h =
      some_too IsSimple (λ s. SomeOf (HoldsPosition g) (simple_vertices s)) (λ s. SimpleMeets s g) (λ s k t. simple_meets s k t) ss
      (recursion_from_All IsSimple ss w.0) (some_held (HoldsPosition g) simple_vertices ss h)

  -- ---- the position at a bound
  module _ (e : BoxValue) (ps : List PositionValue) (is : IsExtent ps e) where
    at_bound : (P : PositionValue → Type 0) → ((p : PositionValue) → Holds e p.x p.y → P p → HoldsPosition g p) → SomeOf P ps → SomeOf (HoldsPosition g) ps
    at_bound P f s = some_too (λ p. Holds e p.x p.y) P (HoldsPosition g) f ps (recursion_from_All (λ p. Holds e p.x p.y) ps is.holds) s

    across_too : Lies g.x0 g.x1 e.x0 → Lies g.x0 g.x1 e.x1 → Lies g.y0 g.y1 e.y0 ⊎ Lies g.y0 g.y1 e.y1 → SomeOf (HoldsPosition g) ps
    across_too west east (inl south) = at_bound (λ p. p.y ≡ e.y0) (λ p h at. (
      omega (arith, ints, h, at, west, east, south),
      omega (arith, ints, h, at, west, east, south),
      omega (arith, ints, h, at, west, east, south),
      omega (arith, ints, h, at, west, east, south),
    )) is.south
    across_too west east (inr north) = at_bound (λ p. p.y ≡ e.y1) (λ p h at. (
      omega (arith, ints, h, at, west, east, north),
      omega (arith, ints, h, at, west, east, north),
      omega (arith, ints, h, at, west, east, north),
      omega (arith, ints, h, at, west, east, north),
    )) is.north

    along_too : Lies g.y0 g.y1 e.y0 → Lies g.y0 g.y1 e.y1 → Lies g.x0 g.x1 e.x0 ⊎ Lies g.x0 g.x1 e.x1 → SomeOf (HoldsPosition g) ps
    along_too south north (inl west) = at_bound (λ p. p.x ≡ e.x0) (λ p h at. (
      omega (arith, ints, h, at, south, north, west),
      omega (arith, ints, h, at, south, north, west),
      omega (arith, ints, h, at, south, north, west),
      omega (arith, ints, h, at, south, north, west),
    )) is.west
    along_too south north (inr east) = at_bound (λ p. p.x ≡ e.x1) (λ p h at. (
      omega (arith, ints, h, at, south, north, east),
      omega (arith, ints, h, at, south, north, east),
      omega (arith, ints, h, at, south, north, east),
      omega (arith, ints, h, at, south, north, east),
    )) is.east

    position_in : (extent window : Envelope) → IsEnvelopeOf extent e → IsEnvelopeOf window g → HasThreeBoundsIn extent window → SomeOf (HoldsPosition g) ps
    position_in extent window of at three =
        let west = lies window.x0 window.x1 extent.x0 g.x0 g.x1 e.x0 at.west at.east of.west in
        let east = lies window.x0 window.x1 extent.x1 g.x0 g.x1 e.x1 at.west at.east of.east in
        let south = lies window.y0 window.y1 extent.y0 g.y0 g.y1 e.y0 at.south at.north of.south in
        let north = lies window.y0 window.y1 extent.y1 g.y0 g.y1 e.y1 at.south at.north of.north in
        elim (three_of_four _ _ _ _ (rw (
          count_two (is_between window.x0 window.x1) extent.x0 extent.x1,
          count_two (is_between window.y0 window.y1) extent.y0 extent.y1,
        ) at three)) [
          | inl (w, x, y) ↦ across_too (west w) (east x) (either south north y)
          | inr (y, z, w) ↦ along_too (south y) (north z) (either west east w)
        ]

-- a geometry meets the box that has three bounds of its extent
pub three_bounds_pass : (g : Option GeometryValue) (e b : GridBox) (extent window : Envelope) → Some (box_value e) ≡ option_map extent_of g → IsGeometryIf g →
    IsEnvelopeOf extent (box_value e) → IsEnvelopeOf window (box_value b)
    → HasThreeBoundsIn extent window → passes geometry_meets g (Some (box_value b)) ≡ true
three_bounds_pass None e b extent window is h of at three = absurd cc
three_bounds_pass (Some v) e b extent window is h of at three =
    let same : box_value e ≡ extent_of v = cc in
    let facts = box_facts b in
    (geometry_decides v (box_value b) facts.4 facts.5).1
    (geometry_meets_at (box_value b) v h (position_in (box_value b) (extent_of v) (vertices v) (extent_is v h) extent window
    (subst (IsEnvelopeOf extent) same of) at three))
