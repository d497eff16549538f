use Rattle.std.proofs.Common.{sym, inl, inr, subst, arith, rules, pos, Some, Err, IsTrue}
use Rattle.sqlite.specs.Held.{state}
use Rattle.sqlite.specs.State.{HasCleanDisk}
use Rattle.sqlite.specs.Effect.{Database}
use Rattle.streetmap_tables.specs.Adoption.{LeavesTheSame, StaysOpen}
use Rattle.streetmap_tables.specs.Creation.{KeepsOtherTables}
use Rattle.streetmap_tables.proofs.BeforeCleanEnd.{leaves_same}
use Rattle.streetmap_tables.proofs.CarryingEnds.{old_same, carries_on, never_counted}
use Rattle.streetmap_tables.proofs.CarryingEnds.{refused_old, refused_unread}
use Rattle.streetmap_tables.proofs.ShownByReads.{reported_open, if_carried}
use Rattle.streetmap_tables.proofs.openings.open_tables.Goals as goal

pub returns-in-Ok-Some-clause-opens : goal.returns-in-Ok-Some-clause-opens
returns-in-Ok-Some-clause-opens g c clean s rests = rw c.in-Ok-Some.field-0-is at (c.in-Ok-Some.ensures.adopts clean s rests)

pub returns-in-Ok-Some-clause-carries : goal.returns-in-Ok-Some-clause-carries
returns-in-Ok-Some-clause-carries g c clean s rests = absurd (never_counted (state g.S.Store c.args.conn.now) s rests c.in-Ok-Some.count
    (rw c.in-Ok-Some.field-0-is at (c.in-Ok-Some.ensures.reports clean)))

pub returns-in-Err-clause-carries : goal.returns-in-Err-clause-carries
returns-in-Err-clause-carries g c clean s rests =
    let old = state g.S.Store c.args.conn.now in
    let new = state g.S.Store c.adopt_tables.new.conn in
    refused_old s old new c.in-Err.fault (refused_unread old s rests c.in-Err.fault (c.in-Err.ensures.reports clean))
    (λ live. old_same old new s rests (c.in-Err.ensures.same clean rests.settled live) c.adopt_tables.ensures.survives.limit live)
    (λ is.
    let live : IsTrue new.is_open = subst (λ f. StaysOpen new (Err f)) is (c.in-Err.ensures.live clean) in
    let same = c.in-Err.ensures.same clean rests.settled live in (
      live,
      (
        leaves_same old new same.1 (λ trees may. g.met.S.Store.settled c.adopt_tables.new.conn.store trees live may)
            (g.met.S.Store.stays c.args.conn.now.store rests.live),
        leaves_same new old (sym same.1) (λ trees may. g.met.S.Store.settled c.args.conn.now.store trees rests.live may)
            (g.met.S.Store.stays c.adopt_tables.new.conn.store live),
      ),
    ))

pub returns-in-Ok-None-clause-carries : goal.returns-in-Ok-None-clause-carries
returns-in-Ok-None-clause-carries g c clean s rests =
    let old = state g.S.Store c.args.conn.now in
    let mid = state g.S.Store c.adopt_tables.new.conn in
    let new = state g.S.Store c.carry_tables.new.conn in
    let early : HasCleanDisk mid = omega (arith, clean, c.carry_tables.ensures.survives.clean) in
    let live : IsTrue mid.is_open = c.in-Ok-None.ensures.live early in
    let same = c.in-Ok-None.ensures.same early rests.settled live in
    let leaves : LeavesTheSame old mid = (
      leaves_same old mid same.1 (λ trees may. g.met.S.Store.settled c.adopt_tables.new.conn.store trees live may)
          (g.met.S.Store.stays c.args.conn.now.store rests.live),
      leaves_same mid old (sym same.1) (λ trees may. g.met.S.Store.settled c.args.conn.now.store trees rests.live may)
          (g.met.S.Store.stays c.adopt_tables.new.conn.store live),
    ) in
    carries_on s old mid new c.carry_tables.result same.0 leaves (c.carry_tables.ensures.carries clean s
    (old_same old mid s rests same c.adopt_tables.ensures.survives.limit live))

pub returns-in-Ok-None-clause-elsewhere : goal.returns-in-Ok-None-clause-elsewhere
returns-in-Ok-None-clause-elsewhere g c clean s rests opened =
    let old = state g.S.Store c.args.conn.now in
    let mid = state g.S.Store c.adopt_tables.new.conn in
    let new = state g.S.Store c.carry_tables.new.conn in
    let early : HasCleanDisk mid = omega (arith, clean, c.carry_tables.ensures.survives.clean) in
    let live : IsTrue mid.is_open = c.in-Ok-None.ensures.live early in
    let same = c.in-Ok-None.ensures.same early rests.settled live in
    subst (λ (d : Database). KeepsOtherTables d new.now) same.0 (c.carry_tables.ensures.elsewhere clean s
    (old_same old mid s rests same c.adopt_tables.ensures.survives.limit live) opened)

pub returns-in-Ok-None-clause-crash : goal.returns-in-Ok-None-clause-crash
returns-in-Ok-None-clause-crash g c clean s rests trees may =
    let old = state g.S.Store c.args.conn.now in
    let mid = state g.S.Store c.adopt_tables.new.conn in
    let early : HasCleanDisk mid = omega (arith, clean, c.carry_tables.ensures.survives.clean) in
    let live : IsTrue mid.is_open = c.in-Ok-None.ensures.live early in
    let same = c.in-Ok-None.ensures.same early rests.settled live in
    elim (c.carry_tables.ensures.crash clean s (old_same old mid s rests same c.adopt_tables.ensures.survives.limit live) trees may) [
      | inl was ↦ elim (c.adopt_tables.ensures.survives.crash early trees was) [ inl before ↦ inl before | inr none ↦ absurd none ]
      | inr it ↦ inr it
    ]

pub returns-in-Ok-None-clause-carried : goal.returns-in-Ok-None-clause-carried
returns-in-Ok-None-clause-carried g c clean =
    let old = state g.S.Store c.args.conn.now in
    let mid = state g.S.Store c.adopt_tables.new.conn in
    let early : HasCleanDisk mid = omega (arith, clean, c.carry_tables.ensures.survives.clean) in
    let live : IsTrue mid.is_open = c.in-Ok-None.ensures.live early in
    let was : IsTrue old.is_open = reported_open old (Some (pos 1)) (rw c.in-Ok-None.field-0-is at (c.in-Ok-None.ensures.reports early)) in
    let same = c.in-Ok-None.ensures.same early (c.is_autocommit-idle.ensures.settled (search rules) was) live in
    if_carried g.S.Store c.adopt_tables.new.conn c.args.conn.now c.carry_tables.new.conn c.carry_tables.result same.0 c.adopt_tables.ensures.survives.limit was
    (c.carry_tables.ensures.carried clean)
