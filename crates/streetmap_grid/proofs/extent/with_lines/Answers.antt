use Rattle.std.proofs.Common.{arith}
use Rattle.streetmap_grid.specs.Views.{line_value}
use Rattle.streetmap_grid.proofs.Growing.{bounds_more, bounds_same, bounds_all}
use Rattle.streetmap_grid.proofs.extent.with_lines.Goals as goal

pub loop-line-preserved : goal.loop-line-preserved
loop-line-preserved c = λ ps h. bounds_more (line_value) c.args.lines.now ps c.loop-line.line-index c.line-item.result _ (omega arith) c.line-item.is (bounds_same _ _ _ _ c.positions.ensures (c.with_positions-grows.ensures _ (c.loop-line.invariant ps h)))

pub returns : goal.returns
returns c = λ ps h. bounds_all (λ line. line) line_value c.args.lines.now ps c.loop-line.line-index _ (omega arith) (c.loop-line.invariant ps h)
