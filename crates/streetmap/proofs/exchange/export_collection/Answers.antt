use Rattle.streetmap.proofs.Commands.{hold_one_of, stays_so}
use Rattle.streetmap.proofs.exchange.export_collection.Goals as goal

pub returns-in-Ok-clause-leaves : goal.returns-in-Ok-clause-leaves
returns-in-Ok-clause-leaves g c clean s is =
    let model = g.K.Keeper.model in
    let reads = c.export-done.ensures.reads in
    let old = c.args.keeper.now in
    let new = c.export-done.new.keeper in
    hold_one_of model g.met.K.Durable.images_hold_states old new s _ is reads.calls.preserved clean
    (λ t left. stays_so model old new s t _ (reads.stays clean s is) left)

pub returns-in-Err-clause-leaves : goal.returns-in-Err-clause-leaves
returns-in-Err-clause-leaves g c clean s is =
    let model = g.K.Keeper.model in
    let reads = c.export-done.ensures.reads in
    let old = c.args.keeper.now in
    let new = c.export-done.new.keeper in
    hold_one_of model g.met.K.Durable.images_hold_states old new s _ is reads.calls.preserved clean
    (λ t left. stays_so model old new s t _ (reads.stays clean s is) left)

pub returns-in-Ok-clause-began_clean : goal.returns-in-Ok-clause-began_clean
returns-in-Ok-clause-began_clean g c clean = c.export-done.ensures.reads.calls.began_clean clean

pub returns-in-Err-clause-began_clean : goal.returns-in-Err-clause-began_clean
returns-in-Err-clause-began_clean g c clean = c.export-done.ensures.reads.calls.began_clean clean
