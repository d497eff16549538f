use Rattle.streetmap_ledger.proofs.Examining.{candidates_are_enough}
use Rattle.streetmap_ledger.proofs.laws.selected_are_candidates.Goals as goal

pub returns : goal.returns
returns c = candidates_are_enough
