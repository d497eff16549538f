use Rattle.std.proofs.Common.{rules}
use Rattle.streetmap_web.proofs.BodyRead.{filled}
use Rattle.streetmap_web.proofs.turns.fill.Goals as goal

pub returns-clause-says : goal.returns-clause-says
returns-clause-says g c = filled _ _ c.args.room.now c.read_body-end.new.buf _ _ (search rules) c.read_body-end.ensures.bound c.read_body-end.ensures.read c.read_body-end.ensures.says
