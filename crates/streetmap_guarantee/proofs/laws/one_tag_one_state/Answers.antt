use Rattle.streetmap_guarantee.proofs.Tagging.{one_tag_one_state}
use Rattle.streetmap_guarantee.proofs.laws.one_tag_one_state.Goals as goal

pub returns : goal.returns
returns c = one_tag_one_state
