use Rattle.std.proofs.Common.{◌-◌, drop}
use Rattle.streetmap_grid.specs.Views.{positions_value, box_value}
use Rattle.streetmap_grid.specs.Edges.{edges}
use Rattle.streetmap_grid.specs.Some.{SomeOf}
use Rattle.streetmap_grid.specs.Meeting.{SegmentMeets, LineMeets}
use Rattle.streetmap_grid.proofs.meeting.line_meets.Given as goal

abbrev pub invariant-loop-i : goal.invariant-loop-i
invariant-loop-i l = record {
  out : SomeOf (λ e. SegmentMeets e.0 e.1 (box_value l.area)) (edges (drop (l.i - 1) (positions_value l.positions))) → LineMeets (positions_value l.positions) (box_value l.area);
  back : LineMeets (positions_value l.positions) (box_value l.area) → SomeOf (λ e. SegmentMeets e.0 e.1 (box_value l.area)) (edges (drop (l.i - 1) (positions_value l.positions)));
}
