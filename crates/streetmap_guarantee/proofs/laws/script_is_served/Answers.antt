use Rattle.streetmap_guarantee.proofs.Guarded.{script_is_served}
use Rattle.streetmap_guarantee.proofs.laws.script_is_served.Goals as goal

pub returns : goal.returns
returns c = script_is_served
