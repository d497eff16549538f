use Rattle.streetmap_grid.specs.Views.{ring_value, box_value}
use Rattle.streetmap_grid.specs.Meeting.{LineMeets}
use Rattle.streetmap_grid.proofs.Elements.{some_map, map_some}
use Rattle.streetmap_grid.proofs.meeting.some_ring_meets.Goals as goal

pub loop-ring-init : goal.loop-ring-init
loop-ring-init c =
    record {
      out = some_map ring_value (λ x. LineMeets x (box_value c.args.area.now)) c.args.rings.now;
      back = map_some ring_value (λ x. LineMeets x (box_value c.args.area.now)) c.args.rings.now;
    }
