use Rattle.streetmap_replay.proofs.Sitting.{sittings_add_up}
use Rattle.streetmap_replay.proofs.laws.sittings_add_up.Goals as goal

pub returns : goal.returns
returns c = sittings_add_up
