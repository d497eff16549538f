use Rattle.streetmap_grid.specs.Views.{polygon_value, box_value}
use Rattle.streetmap_grid.specs.Meeting.{PolygonMeets}
use Rattle.streetmap_grid.proofs.Elements.{some_map, map_some}
use Rattle.streetmap_grid.proofs.meeting.some_polygon_meets.Goals as goal

pub loop-polygon-init : goal.loop-polygon-init
loop-polygon-init c =
    record {
      out = some_map polygon_value (λ x. PolygonMeets x (box_value c.args.area.now)) c.args.polygons.now;
      back = map_some polygon_value (λ x. PolygonMeets x (box_value c.args.area.now)) c.args.polygons.now;
    }
