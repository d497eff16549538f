use Rattle.streetmap_batch.specs.BatchView.{batch_value}
use Rattle.streetmap.specs.Changes.{Imported}
use Rattle.streetmap.proofs.Commands.{hold_one_of, imported, printed_of, by_stop}
use Rattle.streetmap.proofs.exchange.apply_batch.Goals as goal

pub returns-in-Ok-clause-leaves : goal.returns-in-Ok-clause-leaves
returns-in-Ok-clause-leaves g c clean s is =
    let model = g.K.Keeper.model in
    let old = c.args.keeper.now in
    let new = c.apply_import.new.keeper in
    let b = batch_value c.args.batch.now in
    let done = c.print_reply.result in
    hold_one_of model g.met.K.Durable.images_hold_states old new s (Imported s b done) is c.in-Ok.ensures.calls.preserved clean
    (λ t left. imported model old new s t b c.in-Ok.reply done (c.in-Ok.ensures.imports clean s is) (printed_of done c.print_reply.ensures) left)

pub returns-in-Err-clause-leaves : goal.returns-in-Err-clause-leaves
returns-in-Err-clause-leaves g c clean s is =
    let model = g.K.Keeper.model in
    let old = c.args.keeper.now in
    let new = c.apply_import.new.keeper in
    let b = batch_value c.args.batch.now in
    hold_one_of model g.met.K.Durable.images_hold_states old new s _ is c.in-Err.ensures.calls.preserved clean
    (λ t left. by_stop model old new s t b c.in-Err.fault (c.in-Err.ensures.imports clean s is) left)

pub returns-in-Ok-clause-began_clean : goal.returns-in-Ok-clause-began_clean
returns-in-Ok-clause-began_clean g c clean = c.in-Ok.ensures.calls.began_clean clean

pub returns-in-Err-clause-began_clean : goal.returns-in-Err-clause-began_clean
returns-in-Err-clause-began_clean g c clean = c.in-Err.ensures.calls.began_clean clean
