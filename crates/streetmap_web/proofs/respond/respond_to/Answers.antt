use Rattle.std.proofs.Common.{sym, subst, ap}
use Rattle.streetmap_routes.specs.Operations.{OperationValue}
use Rattle.streetmap_routes.specs.OperationView.{operation_value}
use Rattle.streetmap_web.specs.Response.{plainly}
use Rattle.streetmap_web.specs.Responds.{Responds, IsResponse}
use Rattle.streetmap_web.proofs.ReadResponses.{plain_responds, faulty_plain, landing_plain, api_plain, conformance_plain}
use Rattle.streetmap_web.proofs.respond.respond_to.Goals as goal

pub returns-in-Faulty : goal.returns-in-Faulty
returns-in-Faulty g c =
    plain_responds g.K.Keeper.model c.args.root.now (operation_value c.args.operation.now) _ c.args.keeper.now (ap operation_value c.in-Faulty.is) (faulty_plain c.args.root.now _)
    c.faulty.result c.or_starved.result c.faulty.ensures c.or_starved.ensures.ok c.or_starved.ensures.err

pub returns-in-LandingPage : goal.returns-in-LandingPage
returns-in-LandingPage g c =
    plain_responds g.K.Keeper.model c.args.root.now (operation_value c.args.operation.now) _ c.args.keeper.now (ap operation_value c.in-LandingPage.is) (landing_plain c.args.root.now)
    c.found_landing.result c.or_starved-in-LandingPage.result c.found_landing.ensures c.or_starved-in-LandingPage.ensures.ok c.or_starved-in-LandingPage.ensures.err

pub returns-in-ApiText : goal.returns-in-ApiText
returns-in-ApiText g c =
    plain_responds g.K.Keeper.model c.args.root.now (operation_value c.args.operation.now) _ c.args.keeper.now (ap operation_value c.in-ApiText.is) (api_plain c.args.root.now)
    c.found_api.result c.or_starved-in-ApiText.result c.found_api.ensures c.or_starved-in-ApiText.ensures.ok c.or_starved-in-ApiText.ensures.err

pub returns-in-ConformanceClasses : goal.returns-in-ConformanceClasses
returns-in-ConformanceClasses g c =
    plain_responds g.K.Keeper.model c.args.root.now (operation_value c.args.operation.now) _ c.args.keeper.now (ap operation_value c.in-ConformanceClasses.is) (conformance_plain c.args.root.now)
    c.found_conformance.result c.or_starved-in-ConformanceClasses.result c.found_conformance.ensures c.or_starved-in-ConformanceClasses.ensures.ok c.or_starved-in-ConformanceClasses.ensures.err

pub returns-in-Batch : goal.returns-in-Batch
returns-in-Batch g c =
    subst (λ (a : OperationValue). Responds g.K.Keeper.model c.args.root.now (plainly a) IsResponse c.args.keeper.now c.respond_batch.new.keeper c.respond_batch.result)
    (sym (ap operation_value c.in-Batch.is)) (c.respond_batch.ensures c.args.root.now)

pub returns-in-Changes : goal.returns-in-Changes
returns-in-Changes g c =
    subst (λ (a : OperationValue). Responds g.K.Keeper.model c.args.root.now (plainly a) IsResponse c.args.keeper.now c.respond_changes.new.keeper c.respond_changes.result)
    (sym (ap operation_value c.in-Changes.is)) (c.respond_changes.ensures c.args.root.now)

pub returns-in-ServiceStatus : goal.returns-in-ServiceStatus
returns-in-ServiceStatus g c =
    subst (λ (a : OperationValue). Responds g.K.Keeper.model c.args.root.now (plainly a) IsResponse c.args.keeper.now c.respond_status.new.keeper c.respond_status.result)
    (sym (ap operation_value c.in-ServiceStatus.is)) (c.respond_status.ensures c.args.root.now)
