use Rattle.std.proofs.Common.{rules, refl}
use Rattle.sqlite.specs.Held.{state}
use Rattle.sqlite.specs.State.{HasCleanDisk}
use Rattle.streetmap_tables.proofs.BeforeCleanEnd.{clean_back}
use Rattle.streetmap_tables.proofs.ShownByReads.{found_there}
use Rattle.streetmap_tables.proofs.adoption.find_alone.Goals as goal

pub returns-clause-reports : goal.returns-clause-reports
returns-clause-reports g c clean =
    let begun = c.transaction-tx.ensures.begun in
    let start = state g.S.Store c.transaction-tx.result.conn.now in
    let mid = state g.S.Store c.find_inside-found.new.tx.conn.now in
    let early : HasCleanDisk mid = clean_back mid _ _ c.rollback.ensures.survives (search rules) in
    found_there start (state g.S.Store c.args.conn.now) (rw begun refl) (rw begun refl) (λ live. rw begun at live) c.find_inside-found.result
    ((c.find_inside-found.ensures.runs.does early).reports)
