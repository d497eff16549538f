use Rattle.streetmap_ledger.proofs.StatesStay.{stays_well_formed}
use Rattle.streetmap_ledger.proofs.laws.states_stay_well_formed.Goals as goal

pub returns : goal.returns
returns c = stays_well_formed
