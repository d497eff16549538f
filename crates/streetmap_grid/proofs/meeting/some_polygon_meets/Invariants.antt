use Rattle.std.proofs.Common.{drop, map}
use Rattle.streetmap_grid.specs.Views.{polygon_value, box_value}
use Rattle.streetmap_grid.specs.Some.{SomeOf}
use Rattle.streetmap_grid.specs.Meeting.{PolygonMeets}
use Rattle.streetmap_grid.proofs.meeting.some_polygon_meets.Given as goal

abbrev pub invariant-loop-polygon : goal.invariant-loop-polygon
invariant-loop-polygon l = record {
  out : SomeOf (λ x. PolygonMeets (polygon_value x) (box_value l.area)) (drop l.polygon-index l.polygons) → SomeOf (λ x. PolygonMeets x (box_value l.area)) (map polygon_value l.polygons);
  back : SomeOf (λ x. PolygonMeets x (box_value l.area)) (map polygon_value l.polygons) → SomeOf (λ x. PolygonMeets (polygon_value x) (box_value l.area)) (drop l.polygon-index l.polygons);
}
