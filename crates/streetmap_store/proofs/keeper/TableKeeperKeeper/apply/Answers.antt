use Rattle.std.proofs.Common.{refl, ap, Ok, Err}
use Rattle.streetmap_ledger.proofs.Calls.{open_of, shut_of}
use Rattle.streetmap_store.proofs.TableCalls.{write_over, shut_write, leaves_last}
use Rattle.streetmap_store.proofs.keeper.TableKeeperKeeper.apply.Goals as goal

pub returns-then-not-is_open : goal.returns-then-not-is_open
returns-then-not-is_open g c = shut_write c.args.self.now (shut_of _ _ c.is_open.ensures c.if-not-is_open.true)

pub returns-in-Ok : goal.returns-in-Ok
returns-in-Ok g c =
    let store = c.apply_batch.new.conn.store in
    let done = c.in-Ok.ensures in
    let open_still = open_of _ _ c.is_open.ensures c.if-not-is_open.false in
    write_over (Ok c.in-Ok.reply) open_still (leaves_last _ (g.met.S.Store.stays store) (g.met.S.Store.settled store))
    done.survives done.acts done.elsewhere done.crash done.reason (refl, refl, c.count_of-self.ensures)

pub returns-in-Err : goal.returns-in-Err
returns-in-Err g c =
    let store = c.apply_batch.new.conn.store in
    let done = c.in-Err.ensures in
    let open_still = open_of _ _ c.is_open.ensures c.if-not-is_open.false in
    write_over (Err c.in-Err.stop) open_still (leaves_last _ (g.met.S.Store.stays store) (g.met.S.Store.settled store))
    done.survives done.acts done.elsewhere done.crash done.reason (ap (λ f. Err f) c.shut_for.ensures.value, c.shut_for.ensures.after, refl)
