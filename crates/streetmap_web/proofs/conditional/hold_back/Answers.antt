use Rattle.std.proofs.Common.{refl}
use Rattle.streetmap_batch.specs.BatchView.{batch_value}
use Rattle.streetmap_routes.specs.Operations.{batch}
use Rattle.streetmap_web.specs.declared.verdict.Verdict.TheVariants.{Changed}
use Rattle.streetmap_web.proofs.Judgements.{used_judged, new_judged, failed_judged}
use Rattle.streetmap_web.proofs.conditional.hold_back.Goals as goal

pub returns-then-used : goal.returns-then-used
returns-then-used g c root =
    used_judged root (batch_value c.args.batch.now) c.args.tag c.key.result.now c.in-Ok.used c.apply_tagged.result c.key.ensures.value c.if-used.true c.in-Ok.ensures
    (c.apply_tagged.ensures root)

pub returns-else-used : goal.returns-else-used
returns-else-used g c root =
    new_judged root (batch_value c.args.batch.now) c.args.tag c.key.result.now c.in-Ok.used c.faulty.result c.or_starved.result c.key.ensures.value c.if-used.false c.in-Ok.ensures
    c.faulty.ensures c.or_starved.ensures.ok c.or_starved.ensures.err

pub returns-in-Err : goal.returns-in-Err
returns-in-Err g c root = failed_judged c.in-Err.fault c.in-Err.ensures root (batch (batch_value c.args.batch.now)) refl Changed c.args.tag
