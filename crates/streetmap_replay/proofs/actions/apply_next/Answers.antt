use Rattle.std.proofs.Common.{Ok}
use Rattle.streetmap_batch.specs.BatchView.{batch_value}
use Rattle.streetmap_replay.specs.FollowedLines.{acted_next}
use Rattle.streetmap_replay.proofs.ReportedBatches.{next_followed, next_not, next_failed}
use Rattle.streetmap_replay.proofs.actions.apply_next.Goals as goal

pub returns-in-Ok-true : goal.returns-in-Ok-true
returns-in-Ok-true g c = next_followed c.args.serial (batch_value c.args.batch.now) c.in-Ok-true.ensures c.in-Ok-true.field-0-test c.apply.ensures

pub returns-in-Ok-false : goal.returns-in-Ok-false
returns-in-Ok-false g c = next_not c.args.serial (batch_value c.args.batch.now) c.in-Ok-false.ensures c.in-Ok-false.field-0-test

pub returns-in-Err : goal.returns-in-Err
returns-in-Err g c = next_failed (λ s. acted_next s c.args.serial (Ok (batch_value c.args.batch.now))) c.in-Err.ensures
