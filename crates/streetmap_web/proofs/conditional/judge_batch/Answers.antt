use Rattle.std.proofs.Common.{sym, subst}
use Rattle.streetmap_batch.specs.BatchView.{batch_value}
use Rattle.streetmap_routes.specs.Operations.{batch}
use Rattle.streetmap_web.specs.declared.verdict.Verdict.{Verdict}
use Rattle.streetmap_web.specs.Responds.{IsResponse}
use Rattle.streetmap_web.specs.Judging.{RespondsBy}
use Rattle.streetmap_web.proofs.Judgements.{held_judged}
use Rattle.streetmap_web.proofs.conditional.judge_batch.Goals as goal

pub returns-in-Holds : goal.returns-in-Holds
returns-in-Holds g c root =
    subst (λ (v : Verdict). RespondsBy g.K.Keeper.model root (batch (batch_value c.args.batch.now)) v c.args.tag IsResponse c.args.keeper.now c.apply_tagged.new.keeper c.apply_tagged.result)
    (sym c.in-Holds.is) (c.apply_tagged.ensures root)

pub returns-in-NotModified : goal.returns-in-NotModified
returns-in-NotModified g c root =
    held_judged root (batch_value c.args.batch.now) c.args.tag c.args.verdict c.hold_back.result c.in-NotModified.is (c.hold_back.ensures root)
