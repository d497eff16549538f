use Rattle.streetmap_grid.specs.Views.{position_value, box_value}
use Rattle.streetmap_grid.specs.Meeting.{PointMeets}
use Rattle.streetmap_grid.proofs.Elements.{some_map, map_some}
use Rattle.streetmap_grid.proofs.meeting.some_point_meets.Goals as goal

pub loop-p-init : goal.loop-p-init
loop-p-init c =
    record {
      out = some_map position_value (λ x. PointMeets x (box_value c.args.area.now)) c.args.positions.now;
      back = map_some position_value (λ x. PointMeets x (box_value c.args.area.now)) c.args.positions.now;
    }
