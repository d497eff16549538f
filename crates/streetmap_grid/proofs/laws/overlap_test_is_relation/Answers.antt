use Rattle.streetmap_grid.proofs.LawProofs.{overlap_test_is_relation}
use Rattle.streetmap_grid.proofs.laws.overlap_test_is_relation.Goals as goal

pub returns : goal.returns
returns c = overlap_test_is_relation
