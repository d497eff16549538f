use Rattle.std.proofs.Common.{rules, refl}
use Rattle.sqlite.specs.Held.{state}
use Rattle.sqlite.specs.State.{HasCleanDisk}
use Rattle.streetmap_tables.proofs.BeforeCleanEnd.{clean_back, same_after_commit, is_handed}
use Rattle.streetmap_tables.proofs.creation.make_alone.Goals as goal

pub returns-in_err-commit-in-Ok-clause-made : goal.returns-in_err-commit-in-Ok-clause-made
returns-in_err-commit-in-Ok-clause-made g c clean ready =
    let begun = c.transaction-tx.ensures.begun in
    let start = state g.S.Store c.transaction-tx.result.conn.now in
    let mid = state g.S.Store c.make_inside.new.tx.conn.now in
    let early : HasCleanDisk mid = clean_back mid _ _ c.in_err-commit-in-Ok.ensures.survives (search rules) in
    let inside = c.in-Ok.ensures.inside early (rw begun refl) in
    let it = same_after_commit (state g.S.Store c.args.conn.now) start mid _ c.in_err-commit-in-Ok.field-0.0 (rw begun refl)
    (c.in-Ok.ensures.kept early (rw begun refl)) inside (c.in_err-commit-in-Ok.ensures.err (search rules)) ready.settled in
    let handed = is_handed c.from_residual.result c.in_err-commit-in-Ok.field-0.0 c.from_residual.ensures.1 in
    rw handed (search (rules, it))

pub returns-in_err-commit-in-Ok-clause-same : goal.returns-in_err-commit-in-Ok-clause-same
returns-in_err-commit-in-Ok-clause-same g c clean =
    let begun = c.transaction-tx.ensures.begun in
    let start = state g.S.Store c.transaction-tx.result.conn.now in
    let mid = state g.S.Store c.make_inside.new.tx.conn.now in
    let early : HasCleanDisk mid = clean_back mid _ _ c.in_err-commit-in-Ok.ensures.survives (search rules) in
    let inside = c.in-Ok.ensures.inside early (rw begun refl) in
    let handed = is_handed c.from_residual.result c.in_err-commit-in-Ok.field-0.0 c.from_residual.ensures.1 in
    let it = same_after_commit (state g.S.Store c.args.conn.now) start mid _ c.in_err-commit-in-Ok.field-0.0 (rw begun refl)
    (c.in-Ok.ensures.kept early (rw begun refl)) inside (c.in_err-commit-in-Ok.ensures.err (search rules)) in
    rw handed (λ settled. search (rules, it settled))
