use Rattle.std.proofs.Common.{rules, refl}
use Rattle.sqlite.specs.Held.{state}
use Rattle.sqlite.specs.State.{HasCleanDisk}
use Rattle.streetmap_tables.proofs.BeforeCleanEnd.{clean_back}
use Rattle.streetmap_tables.specs.Old.{KeepsOld}
use Rattle.streetmap_tables.specs.Migration.{CarryingRefusedFor}
use Rattle.streetmap_tables.proofs.CarryingEnds.{same_after_rollback}
use Rattle.streetmap_tables.proofs.ShownByReads.{carried_there}
use Rattle.streetmap_tables.proofs.migration.carry_alone.Goals as goal

pub returns-in-Err-clause-carries : goal.returns-in-Err-clause-carries
returns-in-Err-clause-carries g c clean s rests =
    let begun = c.transaction-tx.ensures.begun in
    let start = state g.S.Store c.transaction-tx.result.conn.now in
    let mid = state g.S.Store c.carry_inside.new.tx.conn.now in
    let early : HasCleanDisk mid = clean_back mid _ _ c.rollback.ensures.survives (search rules) in
    let keeps : KeepsOld s start.now = rw begun rests.kept in
    let held : CarryingRefusedFor (state g.S.Store c.args.conn.now).now.schema c.in-Err.fault =
    rw begun at (c.in-Err.ensures.runs.does early (rw begun rests.unlimited) (rw begun refl) s keeps) in
    let it = same_after_rollback (state g.S.Store c.args.conn.now) start mid _ (rw begun refl) (c.in-Err.ensures.runs.kept early (rw begun refl))
    (c.rollback.ensures.undone (search rules)) rests.settled in
    (held, search (rules, it))

pub returns-in-Ok-commit-clause-carried : goal.returns-in-Ok-commit-clause-carried
returns-in-Ok-commit-clause-carried g c clean =
    let begun = c.transaction-tx.ensures.begun in
    let start = c.transaction-tx.result.conn.now in
    let last = c.carry_inside.new.tx.conn.now in
    let mid = state g.S.Store last in
    let early : HasCleanDisk mid = clean_back mid _ _ c.in-Ok-commit.ensures.survives (search rules) in
    let it = carried_there g.S.Store start c.args.conn.now last last (rw begun refl) (rw begun refl) (λ live. rw begun at live) refl
    (c.in-Ok.ensures.carried early (rw begun refl)) in
    let ends = (c.in-Ok-commit.ensures.ok (search rules)).1.now_is in
    (it.0, it.1, it.2, it.3, it.4, it.5, it.6, it.7, search (rules, ends, it.8))
