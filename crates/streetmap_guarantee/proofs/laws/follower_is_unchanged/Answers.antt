use Rattle.streetmap_guarantee.proofs.Guarded.{follower_is_unchanged}
use Rattle.streetmap_guarantee.proofs.laws.follower_is_unchanged.Goals as goal

pub returns : goal.returns
returns c = follower_is_unchanged
