use Rattle.std.proofs.Common.{arith}
use Rattle.streetmap_grid.specs.Views.{ring_value}
use Rattle.streetmap_grid.proofs.Growing.{bounds_more, bounds_same, bounds_all}
use Rattle.streetmap_grid.proofs.extent.with_rings.Goals as goal

pub loop-ring-preserved : goal.loop-ring-preserved
loop-ring-preserved c = λ ps h. bounds_more (ring_value) c.args.rings.now ps c.loop-ring.ring-index c.ring-item.result _ (omega arith) c.ring-item.is (bounds_same _ _ _ _ c.positions.ensures (c.with_positions-grows.ensures _ (c.loop-ring.invariant ps h)))

pub returns : goal.returns
returns c = λ ps h. bounds_all (λ ring. ring) ring_value c.args.rings.now ps c.loop-ring.ring-index _ (omega arith) (c.loop-ring.invariant ps h)
