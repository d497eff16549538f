use Rattle.std.proofs.Common.{refl}
use Rattle.streetmap_web.specs.Refusals.{by_head}
use Rattle.streetmap_web.proofs.keeper_service.is_front_bare.Goals as goal

pub returns-in-Broken : goal.returns-in-Broken
returns-in-Broken c = by_head c.in-Some.len _ c.in-Some.ensures.found.1 c.in-Broken.ensures refl

pub returns-in-Request : goal.returns-in-Request
returns-in-Request c = by_head c.in-Some.len _ c.in-Some.ensures.found.1 c.in-Request.ensures c.is_bare.ensures
