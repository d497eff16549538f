use Rattle.streetmap_exchange.proofs.LawLemmas.{import_of_export}
use Rattle.streetmap_exchange.proofs.laws.import_of_export.Goals as goal

pub returns : goal.returns
returns c = import_of_export
