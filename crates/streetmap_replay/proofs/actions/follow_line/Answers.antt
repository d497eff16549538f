use Rattle.streetmap_batch.specs.BatchView.{batch_value}
use Rattle.streetmap_replay.proofs.ReportedBatches.{not_read, read_on, read_stopped}
use Rattle.streetmap_replay.proofs.actions.follow_line.Goals as goal

pub returns-in-Err : goal.returns-in-Err
returns-in-Err g c = not_read g.K.Keeper.model c.args.bytes.now c.read_line-line.result c.read_line-line.ensures c.args.keeper.now c.in-Err.fault
    c.in-Err.ensures.exact

pub returns-in-Ok-apply_line : goal.returns-in-Ok-apply_line
returns-in-Ok-apply_line g c =
    read_on g.K.Keeper.model c.args.bytes.now c.read_line-line.result c.read_line-line.ensures c.in-Ok.batch c.in-Ok-apply_line.reply c.in-Ok.ensures.exact
    c.in-Ok-apply_line.ensures

pub returns-in-Err-apply_line : goal.returns-in-Err-apply_line
returns-in-Err-apply_line g c = read_stopped g.K.Keeper.model c.args.bytes.now c.read_line-line.result c.read_line-line.ensures (batch_value c.in-Ok.batch)
    c.in-Err-apply_line.fault
    c.in-Ok.ensures.exact c.in-Err-apply_line.ensures
