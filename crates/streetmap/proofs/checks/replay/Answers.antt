use Rattle.streetmap.proofs.Commands.{hold_one_of, stays_so}
use Rattle.streetmap.proofs.checks.replay.Goals as goal

pub returns-clause-leaves : goal.returns-clause-leaves
returns-clause-leaves g c clean s is =
    let model = g.K.Keeper.model in
    let reads = c.check_replay.ensures.kept in
    hold_one_of model g.met.K.Durable.images_hold_states c.args.keeper.now c.check_replay.new.keeper s _ is reads.calls.preserved clean
    (λ t left. stays_so model c.args.keeper.now c.check_replay.new.keeper s t _ (reads.stays clean s is) left)

pub returns-clause-began_clean : goal.returns-clause-began_clean
returns-clause-began_clean g c clean = c.check_replay.ensures.kept.calls.began_clean clean

pub returns-in-Ok-clause-leaves : goal.returns-in-Ok-clause-leaves
returns-in-Ok-clause-leaves g c clean s is =
    let model = g.K.Keeper.model in
    let reads = c.check_replay.ensures.kept in
    hold_one_of model g.met.K.Durable.images_hold_states c.args.keeper.now c.check_replay.new.keeper s _ is reads.calls.preserved clean
    (λ t left. stays_so model c.args.keeper.now c.check_replay.new.keeper s t _ (reads.stays clean s is) left)

pub returns-in-Ok-clause-began_clean : goal.returns-in-Ok-clause-began_clean
returns-in-Ok-clause-began_clean g c clean = c.check_replay.ensures.kept.calls.began_clean clean
