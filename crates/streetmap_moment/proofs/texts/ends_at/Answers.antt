use Rattle.std.proofs.Common.{rules}
use Rattle.streetmap_moment.specs.Intervals.{ends_of}
use Rattle.streetmap_moment.proofs.texts.ends_at.Goals as goal

pub returns-else-is_none-clause-value : goal.returns-else-is_none-clause-value
unfolding ends_of
returns-else-is_none-clause-value c = search rules
