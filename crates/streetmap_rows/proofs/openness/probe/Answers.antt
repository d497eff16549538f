use Rattle.std.proofs.Common.{inl, []}
use Rattle.sqlite.specs.Held.{state}
use Rattle.sqlite.proofs.InsideLemmas.{unchanged_keeps}
use Rattle.streetmap_rows.proofs.ResultCases.{by_either, if_err}
use Rattle.streetmap_rows.proofs.OpennessFails.{commit_text, commit_fails, commit_keeps}
use Rattle.streetmap_rows.proofs.ErrorReasons.{not_run}
use Rattle.streetmap_rows.proofs.openness.probe.Goals as goal

pub returns-clause-failed : goal.returns-clause-failed
returns-clause-failed g c clean =
    let old = state g.S.Store c.args.conn.now in
    let new = state g.S.Store c.prepare.new.self in
    if_err c.prepare.result c.map-probed.result _ _ _ c.map-probed.ensures.cases (c.prepare.ensures.err clean) (λ e failed. commit_fails old new e failed)

pub returns-clause-kept : goal.returns-clause-kept
returns-clause-kept g c clean =
    let old = state g.S.Store c.args.conn.now in
    let new = state g.S.Store c.prepare.new.self in
    by_either c.prepare.result _ _ _ (c.prepare.ensures.ok clean) (c.prepare.ensures.err clean) (λ prepared same. unchanged_keeps old new (inl same.1))
    (λ e failed. commit_keeps old new e failed)

pub returns-clause-reason : goal.returns-clause-reason
returns-clause-reason g c clean =
    let old = state g.S.Store c.args.conn.now in
    let new = state g.S.Store c.prepare.new.self in
    if_err c.prepare.result c.map-probed.result _ _ _ c.map-probed.ensures.cases (c.prepare.ensures.err clean)
    (λ e failed. not_run old new commit_text [] e (failed []))
