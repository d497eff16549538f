use Rattle.std.proofs.Common.{◌∙◌, sym, subst}
use Rattle.sqlite.specs.Held.{state}
use Rattle.streetmap_tables.proofs.BeforeCleanEnd.{clean_back}
use Rattle.streetmap_tables.proofs.RestsAfterTables.{rests_same}
use Rattle.streetmap_rows.specs.CallEnds.{Settles}
use Rattle.streetmap_rows.proofs.ErrorReasons.{stops_settled}
use Rattle.streetmap_checking.proofs.Undone.{unchanged_was}
use Rattle.streetmap_checking.proofs.OfState.{totals_of, never_damaged, damaged_reported, refused_reported}
use Rattle.streetmap_checking.proofs.OfState.{refused_for, same_so_far, settled_by, stopped_on}
use Rattle.streetmap_checking.proofs.Stated.{state_of}
use Rattle.streetmap_checking.proofs.check.check_tables.Goals as goal

pub returns-in-Ok-clause-same : goal.returns-in-Ok-clause-same
returns-in-Ok-clause-same g c clean = unchanged_was _ _ (c.in-Ok.ensures.shows clean).1

pub returns-in-Ok-clause-checks : goal.returns-in-Ok-clause-checks
returns-in-Ok-clause-checks g c clean s rests =
    let old = state g.S.Store c.args.conn.now in
    let new = state g.S.Store c.read_all_tables.new.conn in
    let r = c.in-Ok.ensures.shows clean in (
      totals_of old s rests c.in-Ok.totals r.0,
      rests_same old new s rests (unchanged_was old new r.1 rests.settled r.1.0.is_open)
          c.read_all_tables.ensures.survives.limit r.1.0.is_open,
    )

pub returns-in-Err-Unread-clause-reports : goal.returns-in-Err-Unread-clause-reports
returns-in-Err-Unread-clause-reports g c clean = damaged_reported _ _ _ c.in-Err-Unread.field-0-is (c.in-Err-Unread.ensures.shows clean)

pub returns-in-Err-Unread-clause-checks : goal.returns-in-Err-Unread-clause-checks
returns-in-Err-Unread-clause-checks g c clean s rests = never_damaged (state g.S.Store c.args.conn.now) s rests
    (damaged_reported _ _ _ c.in-Err-Unread.field-0-is (c.in-Err-Unread.ensures.shows clean))

pub returns-in-Err-Store-clause-reports : goal.returns-in-Err-Store-clause-reports
returns-in-Err-Store-clause-reports g c clean =
    let mid = state g.S.Store c.read_all_tables.new.conn in
    let new = state g.S.Store c.settle.new.conn in
    let early = clean_back mid new _ c.settle.ensures.survives clean in
    settled_by (state g.S.Store c.args.conn.now) mid new c.in-Err-Store.error c.settle.result
    (refused_reported _ _ _ _ c.in-Err-Store.field-0-is (c.in-Err-Store.ensures.shows early)) (c.settle.ensures.ends clean)

pub returns-in-Err-Store-clause-same : goal.returns-in-Err-Store-clause-same
returns-in-Err-Store-clause-same g c clean settled live =
    let mid = state g.S.Store c.read_all_tables.new.conn in
    let new = state g.S.Store c.settle.new.conn in
    let early = clean_back mid new _ c.settle.ensures.survives clean in
    let kept = c.settle.ensures.kept clean in
    let was = same_so_far _ _ _ _ c.in-Err-Store.field-0-is (c.in-Err-Store.ensures.shows early) settled (kept.was_open live) in
    let same = kept.committed live ∙ was.1 in
    (c.settle.ensures.settled live ∙ same ∙ sym settled, same)

pub returns-in-Err-Store-clause-checks : goal.returns-in-Err-Store-clause-checks
returns-in-Err-Store-clause-checks g c clean s rests =
    let old = state g.S.Store c.args.conn.now in
    let mid = state g.S.Store c.read_all_tables.new.conn in
    let new = state g.S.Store c.settle.new.conn in
    stopped_on s old new c.settle.result (returns-in-Err-Store-clause-reports g c clean) (never_damaged old s rests)
    (λ live. rests_same old new s rests (returns-in-Err-Store-clause-same g c clean rests.settled live)
    (c.settle.ensures.survives.limit ∙ c.read_all_tables.ensures.survives.limit) live)
    (λ is. (subst (Settles c.in-Err-Store.error mid new) is (c.settle.ensures.ends clean)).1.0.is_open)

pub returns-in-Err-Store-clause-reason : goal.returns-in-Err-Store-clause-reason
returns-in-Err-Store-clause-reason g c clean =
    let old = state g.S.Store c.args.conn.now in
    let mid = state g.S.Store c.read_all_tables.new.conn in
    let new = state g.S.Store c.settle.new.conn in
    let early = clean_back mid new _ c.settle.ensures.survives clean in
    let come = refused_for old mid _ _ c.in-Err-Store.field-0-is (c.in-Err-Store.ensures.shows early) in
    stops_settled old mid new c.in-Err-Store.error c.settle.result _ _ c.read_all_tables.ensures.survives c.settle.ensures.survives clean come
    (c.settle.ensures.ends clean)

pub returns-in-Ok-clause-reports : goal.returns-in-Ok-clause-reports
returns-in-Ok-clause-reports g c clean = state_of (state g.S.Store c.args.conn.now) c.in-Ok.totals (c.in-Ok.ensures.shows clean).0
