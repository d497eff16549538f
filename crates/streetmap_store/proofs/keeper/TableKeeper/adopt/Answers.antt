use Rattle.std.proofs.Common.{refl, sym, rules}
use Rattle.sqlite.specs.Held.{state}
use Rattle.streetmap_tables.proofs.BeforeCleanEnd.{leaves_same}
use Rattle.streetmap_store.proofs.TableCalls.{keeps_state, leaves_last}
use Rattle.streetmap_store.proofs.keeper.TableKeeper.adopt.Goals as goal

pub returns-in-Ok-clause-adopted : goal.returns-in-Ok-clause-adopted
returns-in-Ok-clause-adopted g c clean s rests =
    let it = c.in-Ok.ensures.opens clean s rests in
    let store = c.open_tables.new.conn.store in
    keeps_state _ (state g.S.Store c.open_tables.new.conn) _ s refl it.1 (sym it.0)
    (leaves_last _ (g.met.S.Store.stays store) (g.met.S.Store.settled store))

pub returns-in-Ok-clause-carried : goal.returns-in-Ok-clause-carried
returns-in-Ok-clause-carried g c clean s rests =
    let it = c.in-Ok.ensures.carries clean s rests in
    let store = c.open_tables.new.conn.store in
    keeps_state _ (state g.S.Store c.open_tables.new.conn) _ s refl it.1 (sym it.0)
    (leaves_last _ (g.met.S.Store.stays store) (g.met.S.Store.settled store))

pub returns-in-Ok-clause-elsewhere : goal.returns-in-Ok-clause-elsewhere
returns-in-Ok-clause-elsewhere g c clean s rests = c.in-Ok.ensures.elsewhere clean s rests (c.in-Ok.ensures.carries clean s rests).1.live

pub returns-in-Err-clause-leaves : goal.returns-in-Err-clause-leaves
returns-in-Err-clause-leaves g c clean was live =
    let old = state g.S.Store c.args.conn in
    let new = state g.S.Store c.open_tables.new.conn in
    let before = c.args.conn.store in
    let after = c.open_tables.new.conn.store in
    let settled = c.is_autocommit-idle.ensures.settled (search rules) was in
    let same = c.in-Err.ensures.same clean settled live in (
      leaves_same old new same.1 (λ trees may. g.met.S.Store.settled after trees live may) (g.met.S.Store.stays before was),
      leaves_same new old (sym same.1) (λ trees may. g.met.S.Store.settled before trees was may) (g.met.S.Store.stays after live),
    )
