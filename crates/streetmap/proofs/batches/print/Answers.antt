use Rattle.std.proofs.Common.{refl}
use Rattle.streetmap.proofs.Commands.{hold_one_of, hold_still, stays_so}
use Rattle.streetmap.proofs.batches.print.Goals as goal

pub returns-in_default-clause-leaves : goal.returns-in_default-clause-leaves
returns-in_default-clause-leaves g c clean s is = hold_still g.K.Keeper.model g.met.K.Durable.images_hold_states _ s _ is clean refl

pub returns-in-Ok-write_batches-clause-leaves : goal.returns-in-Ok-write_batches-clause-leaves
returns-in-Ok-write_batches-clause-leaves g c clean s is =
    let model = g.K.Keeper.model in
    let reads = c.write_batches.ensures.reads in
    hold_one_of model g.met.K.Durable.images_hold_states c.args.keeper.now c.write_batches.new.keeper s _ is reads.calls.preserved clean
    (λ t left. stays_so model c.args.keeper.now c.write_batches.new.keeper s t _ (reads.stays clean s is) left)

pub returns-clause-leaves : goal.returns-clause-leaves
returns-clause-leaves g c clean s is =
    let model = g.K.Keeper.model in
    let reads = c.write_batches.ensures.reads in
    hold_one_of model g.met.K.Durable.images_hold_states c.args.keeper.now c.write_batches.new.keeper s _ is reads.calls.preserved clean
    (λ t left. stays_so model c.args.keeper.now c.write_batches.new.keeper s t _ (reads.stays clean s is) left)

pub returns-in-Ok-write_batches-clause-began_clean : goal.returns-in-Ok-write_batches-clause-began_clean
returns-in-Ok-write_batches-clause-began_clean g c clean = c.write_batches.ensures.reads.calls.began_clean clean

pub returns-clause-began_clean : goal.returns-clause-began_clean
returns-clause-began_clean g c clean = c.write_batches.ensures.reads.calls.began_clean clean
