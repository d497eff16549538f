use Rattle.std.proofs.Common.{arith, ap}
use Rattle.streetmap_grid.specs.Views.{polygon_value}
use Rattle.streetmap_grid.specs.Extent.{polygon_vertices}
use Rattle.streetmap_grid.proofs.Growing.{bounds_more, bounds_same, bounds_all}
use Rattle.streetmap_grid.proofs.extent.with_polygons.Goals as goal

pub loop-polygon-preserved : goal.loop-polygon-preserved
loop-polygon-preserved c = λ ps h. bounds_more (λ p. polygon_vertices (polygon_value p)) c.args.polygons.now ps c.loop-polygon.polygon-index c.polygon-item.result _ (omega arith) c.polygon-item.is (bounds_same _ _ _ _ (ap polygon_vertices c.rings.ensures) (c.with_rings-grows.ensures _ (c.loop-polygon.invariant ps h)))

pub returns : goal.returns
returns c = λ ps h. bounds_all (polygon_vertices) polygon_value c.args.polygons.now ps c.loop-polygon.polygon-index _ (omega arith) (c.loop-polygon.invariant ps h)
