use Rattle.streetmap_grid.specs.Views.{simple_value, box_value}
use Rattle.streetmap_grid.specs.Meeting.{SimpleMeets}
use Rattle.streetmap_grid.proofs.Elements.{some_map, map_some}
use Rattle.streetmap_grid.proofs.meeting.some_member_meets.Goals as goal

pub loop-member-init : goal.loop-member-init
loop-member-init c =
    record {
      out = some_map simple_value (λ x. SimpleMeets x (box_value c.args.area.now)) c.args.members.now;
      back = map_some simple_value (λ x. SimpleMeets x (box_value c.args.area.now)) c.args.members.now;
    }
