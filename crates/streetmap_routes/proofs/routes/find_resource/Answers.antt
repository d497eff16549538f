use Rattle.std.proofs.Common.{rules}
use Rattle.streetmap_routes.specs.Operations.{resource_at}
use Rattle.streetmap_routes.proofs.routes.find_resource.Goals as goal

pub returns-in-Some : goal.returns-in-Some
unfolding resource_at
returns-in-Some c = search rules
