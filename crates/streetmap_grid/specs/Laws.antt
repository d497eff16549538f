-- What holds of the definitions, for all plain values.
use Rattle.std.specs.Prelude.{◌%◌, ◌≡◌, ◌↔◌, ℤ, List, All, IsTrue}
use Rattle.streetmap_grid.specs.Values.{PositionValue, BoxValue, GeometryValue}
use Rattle.streetmap_grid.specs.WellFormed.{IsBox, IsGeometry}
use Rattle.streetmap_grid.specs.Ring.{is_closed, oriented, is_oriented_polygon}
use Rattle.streetmap_grid.specs.Crossings.{straddles, IsInside}
use Rattle.streetmap_grid.specs.Meeting.{Holds, GeometryMeets, geometry_meets}
use Rattle.streetmap_grid.specs.Extent.{IsExtent, vertices, polygon_vertices, extent_of, Overlaps}
use Rattle.streetmap_grid.specs.Extent.{overlaps, IsWithin, is_within}

-- the test of a geometry against a box is true exactly if the relation by fractions holds
abbrev pub MeetingTestIsRelation : Type 0
MeetingTestIsRelation = (v : GeometryValue) (g : BoxValue) → IsBox g
    → (IsTrue (geometry_meets v g) ↔ GeometryMeets v g)

-- the test of two boxes is true exactly if they have a point in common
abbrev pub OverlapTestIsRelation : Type 0
OverlapTestIsRelation = (a b : BoxValue) → IsBox a → IsBox b
    → (IsTrue (overlaps a b) ↔ Overlaps a b)

-- what meets a box has an extent that overlaps it
abbrev pub WhatMeetsOverlaps : Type 0
WhatMeetsOverlaps = (v : GeometryValue) (g : BoxValue) → IsGeometry v → IsBox g
    → IsTrue (geometry_meets v g) → IsTrue (overlaps (extent_of v) g)

-- the test of two boxes is true exactly if each point of the one lies in the other
abbrev pub WithinTestIsRelation : Type 0
WithinTestIsRelation = (a b : BoxValue) → IsBox a → (IsTrue (is_within a b) ↔ IsWithin a b)

-- a geometry whose extent lies within a box meets that box
abbrev pub WhatLiesWithinMeets : Type 0
WhatLiesWithinMeets = (v : GeometryValue) (g : BoxValue) → IsGeometry v → IsBox g
    → IsTrue (is_within (extent_of v) g) → IsTrue (geometry_meets v g)

-- the least and greatest coordinates are the extent, and no other box is
abbrev pub ExtentIsOneBox : Type 0
ExtentIsOneBox =
    (v : GeometryValue) → IsGeometry v → IsExtent (vertices v) (extent_of v)
    × ((g : BoxValue) → IsExtent (vertices v) g → g ≡ extent_of v)

-- a closed ring has an even number of edges with exactly one end above any northing
abbrev pub ClosedRingsAreEven : Type 0
ClosedRingsAreEven = (y : ℤ) (ring : List PositionValue) → IsTrue (is_closed ring)
    → straddles y ring % 2 ≡ 0

-- what is inside of closed rings lies in each box that holds all their positions
abbrev pub NoneIsInsideOutside : Type 0
NoneIsInsideOutside =
    (rings : List (List PositionValue)) (g : BoxValue) (x y : ℤ)
    → All (λ r. IsTrue (is_closed r)) rings
    → All (λ p. Holds g p.x p.y) (polygon_vertices rings)
    → IsInside x y rings
    → Holds g x y

-- no ring of an oriented polygon has the wrong sign
abbrev pub OrientedIsRight : Type 0
OrientedIsRight = (rings : List (List PositionValue))
    → IsTrue (is_oriented_polygon (oriented rings))

-- a polygon of which no ring has the wrong sign stays as it is
abbrev pub RightIsUnchanged : Type 0
RightIsUnchanged = (rings : List (List PositionValue)) → IsTrue (is_oriented_polygon rings)
    → oriented rings ≡ rings
