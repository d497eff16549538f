use Rattle.std.proofs.Common.{ap, ◌∙◌}
use Rattle.streetmap_batch.specs.BatchView.{batch_value}
use Rattle.streetmap_routes.specs.Operations.{batch}
use Rattle.streetmap_web.specs.Response.{tagged, replied}
use Rattle.streetmap_web.specs.declared.verdict.Verdict.TheVariants.{Holds}
use Rattle.streetmap_web.proofs.Judgements.{not_judged, reply_judged, fault_judged}
use Rattle.streetmap_web.proofs.conditional.apply_tagged.Goals as goal

pub returns-in_default : goal.returns-in_default
returns-in_default g c root = not_judged g.K.Keeper.model root (batch (batch_value c.args.batch.now)) Holds c.args.tag c.args.keeper.now

pub returns-in-Ok-apply : goal.returns-in-Ok-apply
returns-in-Ok-apply g c root =
    let b = batch_value c.args.batch.now in
    let reply = c.in-Ok-apply.reply in
    reply_judged root b c.args.tag reply c.tagged.result c.in-Ok-apply.ensures
    (c.tagged.ensures ∙ ap (tagged c.tag_after.result) c.replied.ensures ∙ ap (λ n. tagged n (replied b.key reply)) c.tag_after.ensures)

pub returns-in-Err : goal.returns-in-Err
returns-in-Err g c root = fault_judged root (batch_value c.args.batch.now) c.args.tag c.in-Err.fault c.in-Err.ensures
