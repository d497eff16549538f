use Rattle.streetmap_grid.proofs.LawProofs.{right_is_unchanged}
use Rattle.streetmap_grid.proofs.laws.right_is_unchanged.Goals as goal

pub returns : goal.returns
returns c = right_is_unchanged
