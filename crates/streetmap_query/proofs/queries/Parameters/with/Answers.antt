use Rattle.std.proofs.Common.{rules}
use Rattle.streetmap_query.specs.Parameters.{with_pair}
use Rattle.streetmap_query.proofs.queries.Parameters.with.Goals as goal

pub returns-in_default : goal.returns-in_default
unfolding with_pair
returns-in_default c = search rules
