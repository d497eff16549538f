use Rattle.std.proofs.Common.{◌≡◌, Option, None, Some, option_map, true, ap, subst, ◌∙◌}
use Rattle.std.specs.Prelude.{◌||◌, is_some, is_none}
use Rattle.streetmap_grid.specs.declared.grid_box.GridBox.{GridBox}
use Rattle.streetmap_grid.specs.Values.{GeometryValue}
use Rattle.streetmap_grid.specs.Views.{box_value}
use Rattle.streetmap_grid.specs.Extent.{extent_of, IsWithin}
use Rattle.streetmap_grid.specs.Meeting.{geometry_meets}
use Rattle.streetmap_grid.proofs.Facts.{box_facts}
use Rattle.streetmap_grid.proofs.LawProofs.{within_test_is_relation}
use Rattle.streetmap_geojson.specs.FeatureInvariant.{IsGeometryIf}
use Rattle.streetmap_ledger.specs.Outlines.{FeatureOutlineValue}
use Rattle.streetmap_ledger.specs.Pages.{passes}
use Rattle.streetmap_ledger.proofs.Examining.{within_passes}
use Rattle.streetmap_outlines.specs.Outlines.{LiesWithin, has_extent}
use Rattle.streetmap_outlines.proofs.selection.lies_whole_within_box.Goals as goal

-- what lies within bounds that lie within a box meets it
inner : (e : Option GridBox) (bounds area : GridBox) (g : Option GeometryValue) → LiesWithin e (Some bounds) → IsWithin (box_value bounds) (box_value area) →
    option_map box_value e ≡ option_map extent_of g → IsGeometryIf g
    → is_some e ≡ true → passes geometry_meets g (Some (box_value area)) ≡ true
inner None bounds area g lies within is made some = absurd cc
inner (Some e) bounds area g lies within is made some =
    let both : IsWithin (box_value e) (box_value area) = λ x y held. within x y (lies x y held) in
    within_passes g e area is made ((within_test_is_relation (box_value e) (box_value area) (box_facts e)).1 both)

pub returns-in-Some-bounds : goal.returns-in-Some-bounds
returns-in-Some-bounds c = λ inside outline f lies known made counted.
    let area = c.in-Some.area in
    let bounds = c.in-Some-bounds.bounds in
    let within : IsWithin (box_value bounds) (box_value area) = c.is_within.ensures.points.0 inside in
    let here = subst (LiesWithin outline.extent) c.in-Some-bounds.is lies in
    ap (λ (o : Option GridBox). passes geometry_meets f.geometry (option_map box_value o)) c.in-Some.is
    ∙ inner outline.extent bounds area f.geometry here within (ap (λ (v : FeatureOutlineValue). v.extent) known) made.made
    (subst (λ (o : Option GridBox). (is_none (option_map box_value o) || has_extent outline) ≡ true) c.in-Some.is counted)
