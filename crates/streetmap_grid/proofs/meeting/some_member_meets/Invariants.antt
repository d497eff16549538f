use Rattle.std.proofs.Common.{drop, map}
use Rattle.streetmap_grid.specs.Views.{simple_value, box_value}
use Rattle.streetmap_grid.specs.Some.{SomeOf}
use Rattle.streetmap_grid.specs.Meeting.{SimpleMeets}
use Rattle.streetmap_grid.proofs.meeting.some_member_meets.Given as goal

abbrev pub invariant-loop-member : goal.invariant-loop-member
invariant-loop-member l = record {
  out : SomeOf (λ x. SimpleMeets (simple_value x) (box_value l.area)) (drop l.member-index l.members) → SomeOf (λ x. SimpleMeets x (box_value l.area)) (map simple_value l.members);
  back : SomeOf (λ x. SimpleMeets x (box_value l.area)) (map simple_value l.members) → SomeOf (λ x. SimpleMeets (simple_value x) (box_value l.area)) (drop l.member-index l.members);
}
