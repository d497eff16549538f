use Rattle.std.proofs.Common.{arith, refl}
use Rattle.streetmap_grid.specs.Values.{PositionValue}
use Rattle.streetmap_grid.specs.Views.{position_value, box_value}
use Rattle.streetmap_grid.specs.Meeting.{SegmentMeets}
use Rattle.streetmap_grid.proofs.Walk.{edges_at, edges_left}
use Rattle.streetmap_grid.proofs.Elements.{some_here, some_there, some_rest, some_none}
use Rattle.streetmap_grid.proofs.meeting.line_meets.Goals as goal

pub returns-then-segment_meets : goal.returns-then-segment_meets
returns-then-segment_meets c =
    let a = c.index-positions-i.result in
    let b = c.index-positions-i-in-loop-i.result in
    let k = edges_at c.args.positions.now c.loop-i.i a b (omega arith) (omega arith) c.index-positions-i.is c.index-positions-i-in-loop-i.is in (
      λ t. c.loop-i.invariant.out (some_here (λ (e : PositionValue × PositionValue). SegmentMeets e.0 e.1 (box_value c.args.area.now)) (position_value a, position_value b) _ _ k (c.segment_meets.ensures.0 c.if-segment_meets.true)),
      λ t. refl,
    )

pub loop-i-preserved : goal.loop-i-preserved
loop-i-preserved c =
    let a = c.index-positions-i.result in
    let b = c.index-positions-i-in-loop-i.result in
    let k = edges_at c.args.positions.now c.loop-i.i a b (omega arith) (omega arith) c.index-positions-i.is c.index-positions-i-in-loop-i.is in
    let f = c.if-segment_meets.false in
    record {
      out = λ h. c.loop-i.invariant.out (some_there (λ (e : PositionValue × PositionValue). SegmentMeets e.0 e.1 (box_value c.args.area.now)) (position_value a, position_value b) _ _ k h);
      back = λ h. some_rest (λ (e : PositionValue × PositionValue). SegmentMeets e.0 e.1 (box_value c.args.area.now)) (position_value a, position_value b) _ _ k (λ m. let t = c.segment_meets.ensures.1 m in cc) (c.loop-i.invariant.back h);
    }

pub returns : goal.returns
returns c =
    let k = edges_left c.args.positions.now c.loop-i.i (omega arith) in (
      λ t. cc,
      λ h. absurd (some_none (λ (e : PositionValue × PositionValue). SegmentMeets e.0 e.1 (box_value c.args.area.now)) _ k (c.loop-i.invariant.back h)),
    )
