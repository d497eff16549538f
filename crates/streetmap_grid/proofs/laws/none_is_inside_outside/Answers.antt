use Rattle.streetmap_grid.proofs.LawProofs.{none_is_inside_outside}
use Rattle.streetmap_grid.proofs.laws.none_is_inside_outside.Goals as goal

pub returns : goal.returns
returns c = none_is_inside_outside
