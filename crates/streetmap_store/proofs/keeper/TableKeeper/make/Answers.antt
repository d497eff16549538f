use Rattle.std.proofs.Common.{refl, sym, rules}
use Rattle.std.specs.FinMap.{len-empty}
use Rattle.sqlite.specs.Held.{state}
use Rattle.streetmap_ledger.specs.State.{opening_state}
use Rattle.streetmap_tables.proofs.BeforeCleanEnd.{leaves_same}
use Rattle.streetmap_store.proofs.TableCalls.{keeps_state, leaves_last}
use Rattle.streetmap_store.proofs.keeper.TableKeeper.make.Goals as goal

pub returns-in-Ok-clause-made : goal.returns-in-Ok-clause-made
returns-in-Ok-clause-made g c clean ready =
    let it = c.in-Ok.ensures.made clean ready in
    let store = c.make_tables.new.conn.store in
    keeps_state _ (state g.S.Store c.make_tables.new.conn) 0 opening_state refl it.0 (len-empty _ _)
    (leaves_last _ (g.met.S.Store.stays store) (g.met.S.Store.settled store))

pub returns-in-Err-clause-leaves : goal.returns-in-Err-clause-leaves
returns-in-Err-clause-leaves g c clean was live =
    let old = state g.S.Store c.args.conn in
    let new = state g.S.Store c.make_tables.new.conn in
    let before = c.args.conn.store in
    let after = c.make_tables.new.conn.store in
    let settled = c.is_autocommit-idle.ensures.settled (search rules) was in
    let same = c.in-Err.ensures.same clean settled live in (
      leaves_same old new same.1 (λ trees may. g.met.S.Store.settled after trees live may) (g.met.S.Store.stays before was),
      leaves_same new old (sym same.1) (λ trees may. g.met.S.Store.settled before trees was may) (g.met.S.Store.stays after live),
    )
