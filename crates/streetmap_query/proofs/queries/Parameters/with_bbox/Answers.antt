use Rattle.std.proofs.Common.{rules}
use Rattle.streetmap_query.specs.Parameters.{set_bbox}
use Rattle.streetmap_query.proofs.queries.Parameters.with_bbox.Goals as goal

pub returns-in_err-bbox : goal.returns-in_err-bbox
unfolding set_bbox
returns-in_err-bbox c = search rules
