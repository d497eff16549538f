use Rattle.sqlite.specs.Held.{state}
use Rattle.streetmap_ledger.specs.State.{opening_state}
use Rattle.streetmap_rows.proofs.CrashLeaves.{leaves_only}
use Rattle.streetmap_tables.proofs.BeforeCleanEnd.{clean_back, may_leave_it, same_if_settled}
use Rattle.streetmap_tables.proofs.creation.make_tables.Goals as goal

pub returns-in_default-clause-made : goal.returns-in_default-clause-made
returns-in_default-clause-made g c clean ready =
    let seen = state g.S.Store c.make_alone.new.conn in
    let rests = (c.in_default.ensures.made clean ready).0 in
    let store = c.make_alone.new.conn.store in (
      rests,
      may_leave_it seen opening_state rests (g.met.S.Store.stays store rests.live),
      leaves_only seen opening_state rests (λ trees may. g.met.S.Store.settled store trees rests.live may),
    )

pub returns-in-Err-probe-clause-made : goal.returns-in-Err-probe-clause-made
returns-in-Err-probe-clause-made g c clean ready =
    let old = state g.S.Store c.args.conn.now in
    let mid = state g.S.Store c.make_alone.new.conn in
    let new = state g.S.Store c.probe.new.conn in
    let early = clean_back mid new _ c.in-Err-probe.ensures.survives clean in
    same_if_settled old mid new (c.in-Err.ensures.made early ready) (c.in-Err-probe.ensures.kept clean) c.probe.ensures.settled ready.settled
