use Rattle.streetmap_grid.specs.Views.{line_value, box_value}
use Rattle.streetmap_grid.specs.Meeting.{LineMeets}
use Rattle.streetmap_grid.proofs.Elements.{some_map, map_some}
use Rattle.streetmap_grid.proofs.meeting.some_line_meets.Goals as goal

pub loop-line-init : goal.loop-line-init
loop-line-init c =
    record {
      out = some_map line_value (λ x. LineMeets x (box_value c.args.area.now)) c.args.lines.now;
      back = map_some line_value (λ x. LineMeets x (box_value c.args.area.now)) c.args.lines.now;
    }
