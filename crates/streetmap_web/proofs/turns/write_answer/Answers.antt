use Rattle.std.proofs.Common.{◌++◌, ap, ◌∙◌}
use Rattle.streetmap_connections.specs.Answers.{answer_text, head_bytes}
use Rattle.streetmap_web.proofs.BodyRead.{sent_kept}
use Rattle.streetmap_web.proofs.Flushes.{answer_flushed}
use Rattle.streetmap_web.proofs.turns.write_answer.Goals as goal

pub returns-clause-says : goal.returns-clause-says
returns-clause-says g c =
    let parts = ap (λ h. h ++ c.body.result.now) c.head.ensures ∙ ap (λ b. head_bytes c.args.answer.now ++ b) c.body.ensures in (
      c.send-sent.result,
      c.flush-flushed.result,
      c.turn_after.ensures,
      sent_kept c.send-sent.result _ (answer_text c.args.answer.now) _ _ _ parts c.send-sent.ensures c.flush-flushed.ensures.bytes,
    )

pub returns-clause-flushed : goal.returns-clause-flushed
returns-clause-flushed g c =
    answer_flushed c.send-sent.result c.flush-flushed.result c.args.closes c.turn_after.result _ _ c.turn_after.ensures c.flush-flushed.ensures.flushed
