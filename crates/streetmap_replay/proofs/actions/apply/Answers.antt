use Rattle.streetmap_batch.specs.BatchView.{batch_value}
use Rattle.streetmap_replay.proofs.ReportedBatches.{written, failed_write}
use Rattle.streetmap_replay.proofs.actions.apply.Goals as goal

pub returns-in-Ok-Accepted : goal.returns-in-Ok-Accepted
returns-in-Ok-Accepted g c = written (batch_value c.args.batch.now) _ (rw c.in-Ok-Accepted.field-0-is at c.in-Ok-Accepted.ensures)

pub returns-in-Ok-Repeated : goal.returns-in-Ok-Repeated
returns-in-Ok-Repeated g c = written (batch_value c.args.batch.now) _ (rw c.in-Ok-Repeated.field-0-is at c.in-Ok-Repeated.ensures)

pub returns-in-Ok-Refused : goal.returns-in-Ok-Refused
returns-in-Ok-Refused g c = written (batch_value c.args.batch.now) _ (rw c.in-Ok-Refused.field-0-is at c.in-Ok-Refused.ensures)

pub returns-in-Err : goal.returns-in-Err
returns-in-Err g c = failed_write (batch_value c.args.batch.now) c.in-Err.fault c.in-Err.ensures
