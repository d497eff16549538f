use Rattle.streetmap_ledger.proofs.Calls.{no_read, shut_read, open_of, shut_of}
use Rattle.streetmap_ledger.specs.SummaryView.{summary_value}
use Rattle.streetmap_index.proofs.KnownSummaries.{reported_in}
use Rattle.streetmap_index.proofs.summaries.collection_with.Goals as goal

pub returns-then-not-is_open : goal.returns-then-not-is_open
returns-then-not-is_open g c = shut_read c.args.keeper.now (shut_of _ _ c.is_open.ensures c.if-not-is_open.true)

pub returns-in-Ok : goal.returns-in-Ok
returns-in-Ok g c =
    no_read c.args.keeper.now _ (open_of _ _ c.is_open.ensures c.if-not-is_open.false) (λ s e known.
    reported_in s c.args.id.now c.args.outlined.now (summary_value c.in-Ok.summary) (λ d at is.
    c.in-Ok.ensures d is ((g.K.Keeper.model.well_formed c.args.keeper.now s e).made _ d at).holds) known)
