use Rattle.streetmap_guarantee.proofs.ChangesAnswered.{changes_are_answered}
use Rattle.streetmap_guarantee.proofs.laws.changes_are_answered.Goals as goal

pub returns : goal.returns
returns c = changes_are_answered
