use Rattle.std.proofs.Common.{refl}
use Rattle.streetmap_ledger.proofs.Calls.{shut_read, open_of, shut_of}
use Rattle.streetmap_store.proofs.TableCalls.{read_over}
use Rattle.streetmap_store.proofs.keeper.TableKeeperTagged.accepted.Goals as goal

pub returns-then-not-is_open : goal.returns-then-not-is_open
returns-then-not-is_open g c = shut_read c.args.self.now (shut_of _ _ c.is_open.ensures c.if-not-is_open.true)

pub returns : goal.returns
returns g c =
    let found = c.batch_of-batch.ensures in
    read_over (open_of _ _ c.is_open.ensures c.if-not-is_open.false) refl found.shows found.stays found.survives c.answer.ensures.answers
