use Rattle.streetmap_replay.proofs.CallsInTurn.{failed}
use Rattle.streetmap_exchange.proofs.KeeperLemmas.{reported_batch, reported_calls, reported_of_reply}
use Rattle.streetmap_exchange.proofs.keeper_imports.apply.Goals as goal

pub returns-in-Ok-clause-calls : goal.returns-in-Ok-clause-calls
returns-in-Ok-clause-calls g c = reported_calls g.K.Keeper.model c.args.keeper.now c.apply.new.self _ _ c.report.result c.report.ensures c.in-Ok.ensures.call

pub returns-in-Ok-clause-imports : goal.returns-in-Ok-clause-imports
returns-in-Ok-clause-imports g c = λ h s e. reported_batch g.K.Keeper.model c.args.keeper.now c.apply.new.self s _ _ c.report.result c.report.ensures
    (c.in-Ok.ensures.writes h s e)

pub returns-in-Ok-clause-reported : goal.returns-in-Ok-clause-reported
returns-in-Ok-clause-reported g c =
    reported_of_reply g.K.Keeper.model.applies _ _ _ _ _ c.report.ensures c.in-Ok.ensures.applied

pub returns-in-Err-clause-calls : goal.returns-in-Err-clause-calls
returns-in-Err-clause-calls g c = failed c.in-Err.ensures.call
