use Rattle.streetmap_grid.proofs.LawProofs.{oriented_is_right}
use Rattle.streetmap_grid.proofs.laws.oriented_is_right.Goals as goal

pub returns : goal.returns
returns c = oriented_is_right
