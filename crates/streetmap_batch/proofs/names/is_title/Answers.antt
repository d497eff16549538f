use Rattle.std.proofs.Common.{rules}
use Rattle.streetmap_batch.specs.Names.{is_title}
use Rattle.streetmap_batch.proofs.names.is_title.Goals as goal

pub returns-then-text-le256 : goal.returns-then-text-le256
unfolding is_title
returns-then-text-le256 c = search rules

pub returns-else-text-le256 : goal.returns-else-text-le256
unfolding is_title
returns-else-text-le256 c = search rules
