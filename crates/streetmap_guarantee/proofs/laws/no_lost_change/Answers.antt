use Rattle.streetmap_guarantee.proofs.Tagging.{no_lost_change}
use Rattle.streetmap_guarantee.proofs.laws.no_lost_change.Goals as goal

pub returns : goal.returns
returns c = no_lost_change
