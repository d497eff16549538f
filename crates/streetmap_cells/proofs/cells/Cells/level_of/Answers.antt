use Rattle.std.proofs.Common.{arith}
use Rattle.streetmap_cells.proofs.cells.Cells.level_of.Goals as goal

pub returns-clause-narrow : goal.returns-clause-narrow
returns-clause-narrow c = omega arith
