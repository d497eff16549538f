use Rattle.std.proofs.Common.{List, ◌++◌, take}
use Rattle.std.specs.List.{flat_map}
use Rattle.streetmap_grid.specs.Values.{PositionValue}
use Rattle.streetmap_grid.specs.Views.{simple_value}
use Rattle.streetmap_grid.specs.Extent.{simple_vertices}
use Rattle.streetmap_grid.specs.Bounds.{AreBounds}
use Rattle.streetmap_grid.proofs.extent.with_members.Given as goal

abbrev pub invariant-loop-member : goal.invariant-loop-member
invariant-loop-member l = (ps : List PositionValue) → AreBounds ps l.fn.bounds → AreBounds (ps ++ flat_map (λ s. simple_vertices (simple_value s)) (take l.member-index l.members)) l.grows
