use Rattle.streetmap_grid.proofs.LawProofs.{within_test_is_relation}
use Rattle.streetmap_grid.proofs.laws.within_test_is_relation.Goals as goal

pub returns : goal.returns
returns c = within_test_is_relation
