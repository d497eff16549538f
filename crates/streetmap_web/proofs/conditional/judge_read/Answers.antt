use Rattle.std.proofs.Common.{sym, subst, Ok, Err}
use Rattle.streetmap_routes.specs.OperationView.{operation_value}
use Rattle.streetmap_web.specs.declared.response.Response.{Response}
use Rattle.streetmap_web.specs.declared.verdict.Verdict.{Verdict}
use Rattle.streetmap_web.specs.Responds.{IsResponse}
use Rattle.streetmap_web.specs.Judging.{RespondsBy}
use Rattle.streetmap_web.proofs.Judgements.{tagged_judged, failed_by, instead_judged, failed_probe}
use Rattle.streetmap_web.proofs.conditional.judge_read.Goals as goal

pub returns-in-Ok : goal.returns-in-Ok
returns-in-Ok g c =
    let operation = operation_value c.args.operation.now in
    subst (λ (v : Verdict). RespondsBy g.K.Keeper.model c.args.root.now operation v c.args.tag IsResponse c.args.keeper.now c.respond_to.new.keeper (Ok c.tagged.result))
    (sym c.in-Holds.is)
    (tagged_judged c.args.root.now operation c.args.tag c.requires.reads c.requires.needed c.in-Ok.response c.tagged.result c.in-Ok.ensures c.tagged.ensures)

pub returns-in-Err : goal.returns-in-Err
returns-in-Err g c =
    let operation = operation_value c.args.operation.now in
    subst (λ (v : Verdict). RespondsBy {A = Response} g.K.Keeper.model c.args.root.now operation v c.args.tag IsResponse c.args.keeper.now c.respond_to.new.keeper (Err c.in-Err.fault))
    (sym c.in-Holds.is)
    (failed_by c.args.root.now operation c.args.tag c.requires.reads c.requires.needed c.in-Err.fault c.in-Err.ensures)

pub returns-in-Ok-respond_probe : goal.returns-in-Ok-respond_probe
returns-in-Ok-respond_probe g c =
    instead_judged c.args.root.now (operation_value c.args.operation.now) c.args.tag c.requires.reads c.requires.needed c.args.verdict c.in_default.not-Holds
    c.in-Ok-respond_probe.response c.instead.result c.or_starved.result c.in-Ok-respond_probe.ensures c.instead.ensures c.or_starved.ensures.ok c.or_starved.ensures.err

pub returns-in-Err-respond_probe : goal.returns-in-Err-respond_probe
returns-in-Err-respond_probe g c =
    failed_probe c.args.root.now (operation_value c.args.operation.now) c.args.tag c.requires.reads c.requires.needed c.args.verdict c.in_default.not-Holds
    c.in-Err-respond_probe.fault c.in-Err-respond_probe.ensures
