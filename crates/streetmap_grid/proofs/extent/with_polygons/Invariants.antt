use Rattle.std.proofs.Common.{List, ◌++◌, take}
use Rattle.std.specs.List.{flat_map}
use Rattle.streetmap_grid.specs.Values.{PositionValue}
use Rattle.streetmap_grid.specs.Views.{polygon_value}
use Rattle.streetmap_grid.specs.Extent.{polygon_vertices}
use Rattle.streetmap_grid.specs.Bounds.{AreBounds}
use Rattle.streetmap_grid.proofs.extent.with_polygons.Given as goal

abbrev pub invariant-loop-polygon : goal.invariant-loop-polygon
invariant-loop-polygon l = (ps : List PositionValue) → AreBounds ps l.fn.bounds → AreBounds (ps ++ flat_map (λ p. polygon_vertices (polygon_value p)) (take l.polygon-index l.polygons)) l.grows
