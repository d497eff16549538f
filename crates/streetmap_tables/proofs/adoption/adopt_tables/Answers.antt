use Rattle.std.proofs.Common.{◌∙◌, sym}
use Rattle.std.specs.FinMap.{len}
use Rattle.sqlite.specs.Held.{state}
use Rattle.streetmap_rows.proofs.CrashLeaves.{leaves_only}
use Rattle.streetmap_tables.proofs.BeforeCleanEnd.{clean_back, may_leave_it, leaves_same}
use Rattle.streetmap_tables.proofs.RestsAfterTables.{rests_same, same_unchanged, one_count}
use Rattle.streetmap_tables.proofs.adoption.adopt_tables.Goals as goal

pub returns-in-Ok-clause-adopts : goal.returns-in-Ok-clause-adopts
returns-in-Ok-clause-adopts g c clean s rests =
    let old = state g.S.Store c.args.conn.now in
    let mid = state g.S.Store c.find_alone.new.conn in
    let new = state g.S.Store c.probe.new.conn in
    let store = c.probe.new.conn.store in
    let early = clean_back mid new _ c.in-Ok.ensures.survives clean in
    let found = c.in-Ok-Keys.ensures.finds early s rests.unlimited rests.kept in
    let still = c.in-Ok.ensures.unchanged clean in
    let live = still.0.is_open in
    let same = same_unchanged old mid new (c.in-Ok-Keys.ensures.same early) still rests.settled live in
    let there = rests_same old new s rests same (c.probe.ensures.survives.limit ∙ c.find_alone.ensures.survives.limit) live in (
      one_count c.in-Ok-Keys.field-0 c.in-Ok-Keys.count (len s.keys) c.in-Ok-Keys.field-0-is found,
      there,
      may_leave_it new s there (g.met.S.Store.stays store live),
      leaves_only new s there (λ trees may. g.met.S.Store.settled store trees live may),
    )

pub returns-in-Memory-clause-adopts : goal.returns-in-Memory-clause-adopts
returns-in-Memory-clause-adopts g c clean s rests =
    let old = state g.S.Store c.args.conn.now in
    let mid = state g.S.Store c.find_alone.new.conn in
    let new = state g.S.Store c.settle.new.conn in
    let before = c.args.conn.now.store in
    let after = c.settle.new.conn.store in
    let early = clean_back mid new _ c.settle.ensures.survives clean in
    let still = (c.in-Memory.ensures.ends clean).1 in
    let live = still.0.is_open in
    let same = same_unchanged old mid new (c.in-Err.ensures.same early) still rests.settled live in (
      rests_same old new s rests same (c.settle.ensures.survives.limit ∙ c.find_alone.ensures.survives.limit) live,
      (
        leaves_same old new same.1 (λ trees may. g.met.S.Store.settled after trees live may) (g.met.S.Store.stays before rests.live),
        leaves_same new old (sym same.1) (λ trees may. g.met.S.Store.settled before trees rests.live may) (g.met.S.Store.stays after live),
      ),
    )
