use Rattle.std.proofs.Common.{drop, map}
use Rattle.streetmap_grid.specs.Views.{ring_value, box_value}
use Rattle.streetmap_grid.specs.Some.{SomeOf}
use Rattle.streetmap_grid.specs.Meeting.{LineMeets}
use Rattle.streetmap_grid.proofs.meeting.some_ring_meets.Given as goal

abbrev pub invariant-loop-ring : goal.invariant-loop-ring
invariant-loop-ring l = record {
  out : SomeOf (λ x. LineMeets (ring_value x) (box_value l.area)) (drop l.ring-index l.rings) → SomeOf (λ x. LineMeets x (box_value l.area)) (map ring_value l.rings);
  back : SomeOf (λ x. LineMeets x (box_value l.area)) (map ring_value l.rings) → SomeOf (λ x. LineMeets (ring_value x) (box_value l.area)) (drop l.ring-index l.rings);
}
