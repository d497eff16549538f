use Rattle.streetmap_grid.proofs.LawProofs.{meeting_test_is_relation}
use Rattle.streetmap_grid.proofs.laws.meeting_test_is_relation.Goals as goal

pub returns : goal.returns
returns c = meeting_test_is_relation
