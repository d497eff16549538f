use Rattle.std.proofs.Common.{arith}
use Rattle.streetmap_cells.proofs.cells.Cells.mark_row.Goals as goal

pub returns-clause-searched : goal.returns-clause-searched
returns-clause-searched c = λ column first last. c.loop-column.invariant.searched column first (omega arith)
