use Rattle.std.proofs.Common.{sym, subst, ap}
use Rattle.streetmap_routes.specs.Operations.{OperationValue}
use Rattle.streetmap_routes.specs.OperationView.{operation_value}
use Rattle.streetmap_web.specs.Responds.{IsResponse}
use Rattle.streetmap_web.specs.Judging.{RespondsBy}
use Rattle.streetmap_web.proofs.conditional.judge.Goals as goal

pub returns-in-Batch : goal.returns-in-Batch
returns-in-Batch g c =
    subst (λ (o : OperationValue). RespondsBy g.K.Keeper.model c.args.root.now o c.args.verdict c.args.tag IsResponse c.args.keeper.now c.judge_batch.new.keeper c.judge_batch.result)
    (sym (ap operation_value c.in-Batch.is)) (c.judge_batch.ensures c.args.root.now)
