use Rattle.std.proofs.Common.{refl}
use Rattle.streetmap_index.proofs.index.Index.give_up.Goals as goal

pub returns-clause-index : goal.returns-clause-index
returns-clause-index c = λ s. c.new.ensures.index s

pub returns-clause-off : goal.returns-clause-off
returns-clause-off c = refl
