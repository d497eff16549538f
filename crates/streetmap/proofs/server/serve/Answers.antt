use Rattle.std.proofs.Common.{length, map, refl, ap}
use Rattle.streetmap_web.specs.Site.{site_value}
use Rattle.streetmap_connections.specs.SlotClients.{client_history}
use Rattle.streetmap.proofs.Counts.{as_many, as_few, none_at_all}
use Rattle.streetmap.proofs.Nobody.{nobody_came}
use Rattle.streetmap.proofs.server.serve.Goals as goal

-- ---- no client was accepted

pub returns-in_err-listener-clause-guarantee : goal.returns-in_err-listener-clause-guarantee
returns-in_err-listener-clause-guarantee g c clean s represented =
    let model = g.K.Keeper.model in
    let kept = c.in_err-listener.ensures.kept in
    let old = c.args.service.now.keeper.keeper in
    let new = c.prepare.new.keeper.keeper in
    nobody_came g.K.Durable.holds (g.K.Durable.leaves new) (site_value c.args.service.now.site) s (model.may_leave new)
    (λ image left. g.met.K.Durable.images_hold_states old new s image represented kept.preserved clean left) (kept.leaves clean s represented)
    _ (ap (map client_history) c.requires)

pub returns-in_err-listener-clause-few : goal.returns-in_err-listener-clause-few
returns-in_err-listener-clause-few g c = none_at_all _ _ (ap length c.requires)

-- ---- clients were served

pub returns-in-Ok-clause-guarantee : goal.returns-in-Ok-clause-guarantee
returns-in-Ok-clause-guarantee g c clean s represented =
    let town = c.in-Ok.ensures in
    town.guarantee clean s (c.in_ok-listener.ensures.represents refl (town.began_clean clean) s represented)

pub returns-clause-guarantee : goal.returns-clause-guarantee
returns-clause-guarantee g c clean s represented =
    let town = c.in-Err.ensures in
    town.guarantee clean s (c.in_ok-listener.ensures.represents refl (town.began_clean clean) s represented)

pub returns-in-Ok-clause-counted : goal.returns-in-Ok-clause-counted
returns-in-Ok-clause-counted g c done = as_many _ _ _ c.count_of.ensures (c.in-Ok.ensures.counted refl)

pub returns-in-Ok-clause-few : goal.returns-in-Ok-clause-few
returns-in-Ok-clause-few g c = as_few _ _ _ c.count_of.ensures c.in-Ok.ensures.few

pub returns-clause-few : goal.returns-clause-few
returns-clause-few g c = as_few _ _ _ c.count_of.ensures c.in-Err.ensures.few

pub returns-in-Ok-clause-preserved : goal.returns-in-Ok-clause-preserved
returns-in-Ok-clause-preserved g c = g.K.Keeper.model.preserves_then _ _ _ c.in_ok-listener.ensures.kept.preserved c.in-Ok.ensures.preserved

pub returns-clause-preserved : goal.returns-clause-preserved
returns-clause-preserved g c = g.K.Keeper.model.preserves_then _ _ _ c.in_ok-listener.ensures.kept.preserved c.in-Err.ensures.preserved
