use Rattle.std.proofs.Common.{rules}
use Rattle.streetmap_batch.specs.Names.{is_key}
use Rattle.streetmap_batch.proofs.names.is_key.Goals as goal

pub returns-then-is_long : goal.returns-then-is_long
unfolding is_key
returns-then-is_long c = search rules
