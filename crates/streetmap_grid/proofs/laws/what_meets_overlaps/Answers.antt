use Rattle.streetmap_grid.proofs.LawProofs.{what_meets_overlaps}
use Rattle.streetmap_grid.proofs.laws.what_meets_overlaps.Goals as goal

pub returns : goal.returns
returns c = what_meets_overlaps
