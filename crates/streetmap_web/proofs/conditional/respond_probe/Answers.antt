use Rattle.std.proofs.Common.{sym, subst, ap}
use Rattle.streetmap_routes.specs.Operations.{OperationValue}
use Rattle.streetmap_routes.specs.OperationView.{operation_value}
use Rattle.streetmap_web.specs.Response.{plainly}
use Rattle.streetmap_web.specs.Judging.{probe}
use Rattle.streetmap_web.specs.Responds.{Responds, IsResponse}
use Rattle.streetmap_web.proofs.conditional.respond_probe.Goals as goal

pub returns-in-Changes : goal.returns-in-Changes
returns-in-Changes g c =
    subst (λ (a : OperationValue). Responds g.K.Keeper.model c.args.root.now (plainly (probe a)) IsResponse c.args.keeper.now c.respond_changes.new.keeper c.respond_changes.result)
    (sym (ap operation_value c.in-Changes.is)) (c.respond_changes.ensures c.args.root.now)
