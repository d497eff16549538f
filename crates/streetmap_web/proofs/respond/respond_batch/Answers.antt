use Rattle.streetmap_batch.specs.BatchView.{batch_value}
use Rattle.streetmap_routes.specs.Operations.{batch}
use Rattle.streetmap_web.specs.Response.{plainly}
use Rattle.streetmap_web.specs.Responds.{IsResponse}
use Rattle.streetmap_web.proofs.ReadResponses.{not_called, reply_responds, fault_responds}
use Rattle.streetmap_web.proofs.respond.respond_batch.Goals as goal

pub returns-in_default : goal.returns-in_default
returns-in_default g c root = not_called g.K.Keeper.model root (plainly (batch (batch_value c.args.batch.now))) IsResponse c.args.keeper.now

pub returns-in-Ok-apply : goal.returns-in-Ok-apply
returns-in-Ok-apply g c root = reply_responds root (batch_value c.args.batch.now) c.in-Ok-apply.reply c.replied.result c.in-Ok-apply.ensures c.replied.ensures

pub returns-in-Err : goal.returns-in-Err
returns-in-Err g c root = fault_responds root (batch_value c.args.batch.now) c.in-Err.fault c.in-Err.ensures
