use Rattle.streetmap_ledger.proofs.Acceptance.{accepted_are_enough}
use Rattle.streetmap_ledger.proofs.laws.accepted_are_enough.Goals as goal

pub returns : goal.returns
returns c = accepted_are_enough
