use Rattle.streetmap_index.proofs.Known.{none_known}
use Rattle.streetmap_index.proofs.index.Index.new.Goals as goal

pub returns-clause-index : goal.returns-clause-index
returns-clause-index c = λ s. (λ name o there. none_known c.new.result.entries c.new.ensures.empty name o there, λ whole. absurd cc)
