use Rattle.std.proofs.Common.{refl}
use Rattle.streetmap_web.proofs.keeper_service.KeeperServiceService.answer.Goals as goal

pub returns : goal.returns
returns g c = (refl, c.answer_request-answer.ensures)
