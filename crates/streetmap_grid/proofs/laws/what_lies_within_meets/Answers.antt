use Rattle.streetmap_grid.proofs.LawProofs.{what_lies_within_meets}
use Rattle.streetmap_grid.proofs.laws.what_lies_within_meets.Goals as goal

pub returns : goal.returns
returns c = what_lies_within_meets
