use Rattle.std.proofs.Common.{arith, ap, length, List}
use Rattle.streetmap_grid.specs.Values.{PositionValue}
use Rattle.streetmap_grid.specs.Views.{geometry_value, box_value}
use Rattle.streetmap_grid.specs.Extent.{vertices, extent_of}
use Rattle.streetmap_grid.proofs.Facts.{geometry_facts}
use Rattle.streetmap_grid.proofs.Growing.{vertices_some, extent_is, same_extent}
use Rattle.streetmap_grid.proofs.extent.extent_of_geometry.Goals as goal

pub unreachable-requires : goal.unreachable-requires
unreachable-requires c =
    let v = geometry_value c.args.geometry.now in
    absurd (omega (arith, vertices_some v (geometry_facts c.args.geometry.now), ap (λ (ps : List PositionValue). length ps) c.in-None.ensures))

pub returns-clause-value : goal.returns-clause-value
returns-clause-value c =
    let v = geometry_value c.args.geometry.now in
    same_extent (vertices v) (box_value c.in-Some.extent) (extent_of v) c.in-Some.ensures (extent_is v (geometry_facts c.args.geometry.now))
