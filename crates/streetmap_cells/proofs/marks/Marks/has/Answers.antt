use Rattle.std.proofs.Common.{arith}
use Rattle.std.proofs.lemmas.Option.{slice_get_past}
use Rattle.streetmap_cells.proofs.marks.Marks.has.Goals as goal

pub returns-in-None : goal.returns-in-None
returns-in-None c = grind (arith, slice_get_past)
