use Rattle.std.proofs.Common.{arith}
use Rattle.sqlite.specs.Held.{state}
use Rattle.sqlite.specs.State.{HasCleanDisk}
use Rattle.sqlite.proofs.StateLemmas.{survives_then}
use Rattle.streetmap_rows.proofs.ErrorReasons.{reason_later, stops_by_cause}
use Rattle.streetmap_tables.proofs.batch.apply_batch.Goals as goal

pub returns-in-Ok-act_by_key-clause-reason : goal.returns-in-Ok-act_by_key-clause-reason
returns-in-Ok-act_by_key-clause-reason g c clean =
    let old = state g.S.Store c.args.conn.now in
    let mid = state g.S.Store c.act_by_key.new.conn in
    let new = state g.S.Store c.probe.new.conn in
    let early : HasCleanDisk mid = omega (arith, clean, c.probe.ensures.survives.clean) in
    stops_by_cause old new c.in-Err-probe.error c.cause_of.result c.cause_of.ensures.cause
    (reason_later old mid new c.in-Err-probe.error _ c.act_by_key.ensures.survives early c.probe.ensures.survives.counts
    (c.in-Err-probe.ensures.reason clean))

pub returns-in-Ok-probe-clause-survives : goal.returns-in-Ok-probe-clause-survives
returns-in-Ok-probe-clause-survives g c =
    survives_then (state g.S.Store c.args.conn.now) (state g.S.Store c.act_by_key.new.conn) (state g.S.Store c.probe.new.conn)
    (λ _. Unit {0}) (λ _. ⊥) (λ _. Unit {0}) (λ _ _ h. h) (λ _ _ none. tt) c.act_by_key.ensures.survives c.probe.ensures.survives
