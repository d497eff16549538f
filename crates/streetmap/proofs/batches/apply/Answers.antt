use Rattle.streetmap.proofs.Commands.{hold_still, hold_more, nothing_read, applied_some}
use Rattle.streetmap.proofs.batches.apply.Goals as goal

pub returns-in_default-clause-leaves : goal.returns-in_default-clause-leaves
returns-in_default-clause-leaves g c clean s is = hold_more (λ t it. applied_some g.K.Keeper.model s t _ _ it) (c.follow.ensures.leaves clean s is)

pub returns-in-Ok-clause-leaves : goal.returns-in-Ok-clause-leaves
returns-in-Ok-clause-leaves g c clean s is = hold_more (λ t it. applied_some g.K.Keeper.model s t _ _ it) (c.follow-in-Ok.ensures.leaves clean s is)

pub returns-in-Err-clause-leaves : goal.returns-in-Err-clause-leaves
returns-in-Err-clause-leaves g c clean s is = hold_still g.K.Keeper.model g.met.K.Durable.images_hold_states _ s _ is clean
    (nothing_read g.K.Keeper.model s _ _)
