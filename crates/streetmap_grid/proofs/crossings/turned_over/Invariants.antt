use Rattle.std.proofs.Common.{◌≡◌, ◌+◌, ◌-◌, ◌%◌, cond, drop}
use Rattle.streetmap_grid.specs.PositionViews.{positions_value}
use Rattle.streetmap_grid.specs.Crossings.{crossings}
use Rattle.streetmap_grid.proofs.crossings.turned_over.Given as goal

abbrev pub invariant-loop-i : goal.invariant-loop-i
invariant-loop-i l = (cond l.inside 1 0 + crossings l.x l.y (drop (l.i - 1) (positions_value l.ring))) % 2 ≡ (cond l.odd 1 0 + crossings l.x l.y (positions_value l.ring)) % 2
