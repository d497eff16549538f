use Rattle.streetmap_grid.proofs.LawProofs.{extent_is_one_box}
use Rattle.streetmap_grid.proofs.laws.extent_is_one_box.Goals as goal

pub returns : goal.returns
returns c = extent_is_one_box
