use Rattle.streetmap_guarantee.proofs.Serials.{other_paths_are_the_same}
use Rattle.streetmap_guarantee.proofs.laws.other_paths_are_the_same.Goals as goal

pub returns : goal.returns
returns c = other_paths_are_the_same
