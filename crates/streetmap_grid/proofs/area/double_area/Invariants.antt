use Rattle.std.proofs.Common.{◌≡◌, ◌-◌, ◌*◌, drop, ◌+ℤ◌, ◌≤ℤ◌, pos, neg_ℤ}
use Rattle.streetmap_grid.specs.PositionViews.{positions_value}
use Rattle.streetmap_grid.specs.Ring.{double_area}
use Rattle.streetmap_grid.proofs.area.double_area.Given as goal

abbrev pub invariant-loop-i : goal.invariant-loop-i
invariant-loop-i l = record {
  rest : l.sum +ℤ double_area (drop (l.i - 1) (positions_value l.positions)) ≡ double_area (positions_value l.positions);
  low : neg_ℤ (pos (2000000000000000000 * l.i)) ≤ℤ l.sum;
  high : l.sum ≤ℤ pos (2000000000000000000 * l.i);
}
