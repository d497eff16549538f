use Rattle.std.proofs.Common.{drop, map}
use Rattle.streetmap_grid.specs.Views.{position_value, box_value}
use Rattle.streetmap_grid.specs.Some.{SomeOf}
use Rattle.streetmap_grid.specs.Meeting.{PointMeets}
use Rattle.streetmap_grid.proofs.meeting.some_point_meets.Given as goal

abbrev pub invariant-loop-p : goal.invariant-loop-p
invariant-loop-p l = record {
  out : SomeOf (λ x. PointMeets (position_value x) (box_value l.area)) (drop l.p-index l.positions) → SomeOf (λ x. PointMeets x (box_value l.area)) (map position_value l.positions);
  back : SomeOf (λ x. PointMeets x (box_value l.area)) (map position_value l.positions) → SomeOf (λ x. PointMeets (position_value x) (box_value l.area)) (drop l.p-index l.positions);
}
