use Rattle.std.proofs.Common.{List, [], ◌∷◌, ◌++◌, take}
use Rattle.std.specs.List.{flat_map}
use Rattle.streetmap_grid.specs.Values.{PositionValue}
use Rattle.streetmap_grid.specs.Views.{position_value}
use Rattle.streetmap_grid.specs.Bounds.{AreBounds}
use Rattle.streetmap_grid.proofs.extent.with_positions.Given as goal

abbrev pub invariant-loop-p : goal.invariant-loop-p
invariant-loop-p l = (ps : List PositionValue) → AreBounds ps l.fn.bounds → AreBounds (ps ++ flat_map (λ p. position_value p ∷ []) (take l.p-index l.positions)) l.grows
