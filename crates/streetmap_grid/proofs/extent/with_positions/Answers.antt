use Rattle.std.proofs.Common.{arith, [], ◌∷◌}
use Rattle.streetmap_grid.specs.Views.{position_value}
use Rattle.streetmap_grid.proofs.Growing.{bounds_more, singles_all}
use Rattle.streetmap_grid.proofs.extent.with_positions.Goals as goal

pub loop-p-preserved : goal.loop-p-preserved
loop-p-preserved c = λ ps h. bounds_more (λ p. position_value p ∷ []) c.args.positions.now ps c.loop-p.p-index c.p-item.result _ (omega arith) c.p-item.is (c.grown-grows.ensures _ (c.loop-p.invariant ps h))

pub returns : goal.returns
returns c = λ ps h. singles_all position_value c.args.positions.now ps c.loop-p.p-index _ (omega arith) (c.loop-p.invariant ps h)
