use Rattle.streetmap_guarantee.proofs.Guarded.{fenced_is_unchanged}
use Rattle.streetmap_guarantee.proofs.laws.fenced_is_unchanged.Goals as goal

pub returns : goal.returns
returns c = fenced_is_unchanged
