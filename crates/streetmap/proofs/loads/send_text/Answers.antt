use Rattle.streetmap.proofs.Commands.{hold_still, hold_more, unless_some, unless_failed}
use Rattle.streetmap.proofs.loads.send_text.Goals as goal

pub returns-in_default-clause-leaves : goal.returns-in_default-clause-leaves
returns-in_default-clause-leaves g c clean s is = hold_more (λ t it. unless_some g.K.Keeper.model _ s t _ _ _ _ it) (c.send.ensures.leaves clean s is)

pub returns-in-Ok-clause-leaves : goal.returns-in-Ok-clause-leaves
returns-in-Ok-clause-leaves g c clean s is = hold_more (λ t it. unless_some g.K.Keeper.model _ s t _ _ _ _ it) (c.send-in-Ok.ensures.leaves clean s is)

pub returns-in-Err-clause-leaves : goal.returns-in-Err-clause-leaves
returns-in-Err-clause-leaves g c clean s is = hold_still g.K.Keeper.model g.met.K.Durable.images_hold_states _ s _ is clean
    (unless_failed g.K.Keeper.model _ s _ _ _ _)
