use Rattle.streetmap_ledger.proofs.Calls.{no_read, shut_read, open_of, shut_of}
use Rattle.streetmap_index.proofs.summaries.collections_with.Goals as goal

pub returns-then-not-is_open : goal.returns-then-not-is_open
returns-then-not-is_open g c = shut_read c.args.keeper.now (shut_of _ _ c.is_open.ensures c.if-not-is_open.true)

pub returns-in-Ok : goal.returns-in-Ok
returns-in-Ok g c =
    no_read c.args.keeper.now _ (open_of _ _ c.is_open.ensures c.if-not-is_open.false) (λ s e known all.
    c.in-Ok.ensures s (g.K.Keeper.model.well_formed c.args.keeper.now s e) known all)
