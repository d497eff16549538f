use Rattle.std.proofs.Common.{drop, map}
use Rattle.streetmap_grid.specs.Views.{line_value, box_value}
use Rattle.streetmap_grid.specs.Some.{SomeOf}
use Rattle.streetmap_grid.specs.Meeting.{LineMeets}
use Rattle.streetmap_grid.proofs.meeting.some_line_meets.Given as goal

abbrev pub invariant-loop-line : goal.invariant-loop-line
invariant-loop-line l = record {
  out : SomeOf (λ x. LineMeets (line_value x) (box_value l.area)) (drop l.line-index l.lines) → SomeOf (λ x. LineMeets x (box_value l.area)) (map line_value l.lines);
  back : SomeOf (λ x. LineMeets x (box_value l.area)) (map line_value l.lines) → SomeOf (λ x. LineMeets (line_value x) (box_value l.area)) (drop l.line-index l.lines);
}
