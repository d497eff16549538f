use Rattle.streetmap.proofs.Commands.{hold_still, hold_more, unless_read, unless_loaded, or_left, or_right, or_neither}
use Rattle.streetmap.proofs.loads.send.Goals as goal

pub returns-then-requested-clause-leaves : goal.returns-then-requested-clause-leaves
returns-then-requested-clause-leaves g c clean s is =
    hold_still g.K.Keeper.model g.met.K.Durable.images_hold_states _ s _ is clean
    (unless_read g.K.Keeper.model _ s _ _ _ _ (or_right c.args.requested.check c.args.requested.print c.if-requested.true))

pub returns-then-requested-2-clause-leaves : goal.returns-then-requested-2-clause-leaves
returns-then-requested-2-clause-leaves g c clean s is =
    hold_still g.K.Keeper.model g.met.K.Durable.images_hold_states _ s _ is clean
    (unless_read g.K.Keeper.model _ s _ _ _ _ (or_left c.args.requested.check c.args.requested.print c.if-requested-2.true))

pub returns-else-requested-2-clause-leaves : goal.returns-else-requested-2-clause-leaves
returns-else-requested-2-clause-leaves g c clean s is =
    hold_more (λ t it. unless_loaded g.K.Keeper.model _ s t _ _ _ _ (or_neither c.args.requested.check c.args.requested.print c.if-requested-2.false
    c.if-requested.false) it)
    (c.load_from.ensures.leaves clean s is)
