use Rattle.std.proofs.Common.{List, ◌++◌, take}
use Rattle.std.specs.List.{flat_map}
use Rattle.streetmap_grid.specs.Values.{PositionValue}
use Rattle.streetmap_grid.specs.Views.{ring_value}
use Rattle.streetmap_grid.specs.Bounds.{AreBounds}
use Rattle.streetmap_grid.proofs.extent.with_rings.Given as goal

abbrev pub invariant-loop-ring : goal.invariant-loop-ring
invariant-loop-ring l = (ps : List PositionValue) → AreBounds ps l.fn.bounds → AreBounds (ps ++ flat_map (ring_value) (take l.ring-index l.rings)) l.grows
