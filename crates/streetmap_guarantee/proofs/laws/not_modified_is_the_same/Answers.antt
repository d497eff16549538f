use Rattle.streetmap_guarantee.proofs.Tagging.{not_modified_is_the_same}
use Rattle.streetmap_guarantee.proofs.laws.not_modified_is_the_same.Goals as goal

pub returns : goal.returns
returns c = not_modified_is_the_same
