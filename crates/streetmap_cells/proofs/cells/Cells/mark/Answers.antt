use Rattle.std.proofs.Common.{arith}
use Rattle.streetmap_cells.proofs.Marking.{all_marked}
use Rattle.streetmap_cells.proofs.cells.Cells.mark.Goals as goal

pub returns-clause-marked : goal.returns-clause-marked
returns-clause-marked c = all_marked c.args.self.now c.args.window.now c.loop-level.marks (λ level known. c.loop-level.invariant.searched level (omega arith))
