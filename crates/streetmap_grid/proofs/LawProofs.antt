-- The laws of the definitions.
use Rattle.std.specs.Prelude.{ℕ, ◌%◌, ◌≡◌, true, false, List, [], ◌∷◌, map, IsTrue, refl}
use Rattle.std.specs.List.{list_all}
use Rattle.std.proofs.Common.{arith, ap, ◌∙◌}
use Rattle.std.proofs.lemmas.List.Elements.{recursion_from_All}
use Rattle.streetmap_grid.specs.Values.{PositionValue}
use Rattle.streetmap_grid.specs.Ring.{is_closed, is_right, turned}
use Rattle.streetmap_grid.specs.Extent.{vertices, polygon_vertices, extent_of}
use Rattle.streetmap_grid.specs.Laws.{MeetingTestIsRelation, OverlapTestIsRelation, WhatMeetsOverlaps, WithinTestIsRelation, WhatLiesWithinMeets, ExtentIsOneBox, ClosedRingsAreEven, NoneIsInsideOutside, OrientedIsRight, RightIsUnchanged}
use Rattle.streetmap_grid.proofs.Growing.{extent_is, same_extent, ordered_extent}
use Rattle.streetmap_grid.proofs.Deciding.{geometry_decides}
use Rattle.streetmap_grid.proofs.Overlapping.{HoldsPosition, overlaps_decides, geometry_overlaps, closed_level, each_held, inside_held}
use Rattle.streetmap_grid.proofs.Within.{within_decides, geometry_within}
use Rattle.streetmap_grid.proofs.Parity.{IsEven, straddling_even}
use Rattle.streetmap_grid.proofs.Booleans.{both}
use Rattle.streetmap_grid.proofs.Turning.{oriented_right, turned_kept}

pub meeting_test_is_relation : MeetingTestIsRelation
meeting_test_is_relation v g b = geometry_decides v g b.4 b.5

pub overlap_test_is_relation : OverlapTestIsRelation
overlap_test_is_relation a b h k = overlaps_decides a b (h.4, h.5) (k.4, k.5)

pub what_meets_overlaps : WhatMeetsOverlaps
what_meets_overlaps v g h b t =
    let e = extent_is v h in
    let o = ordered_extent v h in
    (overlaps_decides (extent_of v) g o (b.4, b.5)).1 (geometry_overlaps (extent_of v) g (b.4, b.5) v h e.holds ((geometry_decides v g b.4 b.5).0 t))

pub within_test_is_relation : WithinTestIsRelation
within_test_is_relation a b h = within_decides a b (h.4, h.5)

pub what_lies_within_meets : WhatLiesWithinMeets
what_lies_within_meets v g h b t =
    (geometry_decides v g b.4 b.5).1 (geometry_within (extent_of v) g v h (extent_is v h).holds ((within_decides (extent_of v) g (ordered_extent v h)).0 t))

pub extent_is_one_box : ExtentIsOneBox
extent_is_one_box v h = (extent_is v h, λ g e. same_extent (vertices v) g (extent_of v) e (extent_is v h))

even_rest : (n : ℕ) → IsEven n → n % 2 ≡ 0
even_rest n (k, e) = omega arith

pub closed_rings_are_even : ClosedRingsAreEven
closed_rings_are_even y [] h = refl
closed_rings_are_even y (a ∷ bs) h = even_rest _ (straddling_even y a bs (closed_level (a ∷ bs) h))

pub none_is_inside_outside : NoneIsInsideOutside
none_is_inside_outside rings g x y c h i =
    inside_held g rings x y (recursion_from_All (λ r. IsTrue (is_closed r)) rings c) (each_held (HoldsPosition g) (λ ring. ring) rings (recursion_from_All (HoldsPosition g) (polygon_vertices rings) h)) i

pub oriented_is_right : OrientedIsRight
oriented_is_right rings = oriented_right rings

holes_kept : (rings : List (List PositionValue)) → list_all (is_right true) rings ≡ true → map (turned true) rings ≡ rings
holes_kept [] h = refl
holes_kept (r ∷ rs) h =
    let b = both (is_right true r) (list_all (is_right true) rs) h in
    ap (λ (q : List PositionValue). q ∷ map (turned true) rs) (turned_kept true r b.0) ∙ ap (λ (qs : List (List PositionValue)). r ∷ qs) (holes_kept rs b.1)

pub right_is_unchanged : RightIsUnchanged
right_is_unchanged [] h = refl
right_is_unchanged (exterior ∷ holes) h =
    let b = both (is_right false exterior) (list_all (is_right true) holes) h in
    ap (λ (q : List PositionValue). q ∷ map (turned true) holes) (turned_kept false exterior b.0) ∙ ap (λ (qs : List (List PositionValue)). exterior ∷ qs) (holes_kept holes b.1)
