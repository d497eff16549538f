use Rattle.std.proofs.Common.{◌∙◌, sym, subst, inl, inr}
use Rattle.sqlite.specs.Held.{state}
use Rattle.streetmap_rows.proofs.CrashLeaves.{leaves_only}
use Rattle.streetmap_tables.proofs.RestsAfterTables.{same_settled}
use Rattle.streetmap_tables.proofs.BeforeCleanEnd.{clean_back, may_leave_it, leaves_same}
use Rattle.streetmap_tables.specs.Reasons.{IsOwn}
use Rattle.streetmap_tables.proofs.CarryingEnds.{old_same, refused_old}
use Rattle.streetmap_tables.proofs.migration.carry_tables.Goals as goal

pub returns-in-Ok-clause-carries : goal.returns-in-Ok-clause-carries
returns-in-Ok-clause-carries g c clean s rests =
    let new = state g.S.Store c.carry_alone.new.conn in
    let store = c.carry_alone.new.conn.store in
    let it = c.in-Ok.ensures.carries clean s rests in (
      it.0,
      it.1,
      may_leave_it new s it.1 (g.met.S.Store.stays store it.1.live),
      leaves_only new s it.1
          (λ trees may. g.met.S.Store.settled store trees it.1.live may),
    )

pub returns-in-Err-clause-carries : goal.returns-in-Err-clause-carries
returns-in-Err-clause-carries g c clean s rests =
    let old = state g.S.Store c.args.conn.now in
    let mid = state g.S.Store c.carry_alone.new.conn in
    let new = state g.S.Store c.report.new.conn in
    let before = c.args.conn.now.store in
    let after = c.report.new.conn.store in
    let early = clean_back mid new _ c.report.ensures.survives clean in
    let same = same_settled old mid new (c.in-Err.ensures.same early) (c.report.ensures.kept clean) c.report.ensures.settled rests.settled in
    refused_old s old new c.report.result (c.report.ensures.reported clean old.now.schema (c.in-Err.ensures.carries early s rests).0)
    (λ live. old_same old new s rests (same live) (c.report.ensures.survives.limit ∙ c.carry_alone.ensures.survives.limit) live)
    (λ memory.
    let live = c.report.ensures.live clean memory in (
      live,
      (
        leaves_same old new (same live).1 (λ trees may. g.met.S.Store.settled after trees live may) (g.met.S.Store.stays before rests.live),
        leaves_same new old (sym (same live).1) (λ trees may. g.met.S.Store.settled before trees rests.live may) (g.met.S.Store.stays after live),
      ),
    ))

pub returns-in-Err-clause-crash : goal.returns-in-Err-clause-crash
returns-in-Err-clause-crash g c clean s rests trees may =
    let mid = state g.S.Store c.carry_alone.new.conn in
    let new = state g.S.Store c.report.new.conn in
    let early = clean_back mid new _ c.report.ensures.survives clean in
    elim (c.report.ensures.survives.crash clean trees may) [
      | inl was ↦ c.in-Err.ensures.crash early s rests trees was
      | inr none ↦ absurd none
    ]

pub returns-in-Err-clause-fewer : goal.returns-in-Err-clause-fewer
returns-in-Err-clause-fewer g c clean is trees may =
    let mid = state g.S.Store c.carry_alone.new.conn in
    let new = state g.S.Store c.report.new.conn in
    let early = clean_back mid new _ c.report.ensures.survives clean in
    elim (c.report.ensures.survives.crash clean trees may) [
      | inl was ↦ c.in-Err.ensures.fewer early (subst IsOwn (sym (c.report.ensures.damaged is)) tt) trees was
      | inr none ↦ absurd none
    ]
