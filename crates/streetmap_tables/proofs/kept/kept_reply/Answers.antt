use Rattle.std.proofs.Common.{rules, ◌≡◌, ◌∙◌, refl, sym}
use Rattle.std.specs.FinMap.{get}
use Rattle.sqlite.specs.Held.{state}
use Rattle.streetmap_rows.specs.Views.{kept_view}
use Rattle.streetmap_tables.specs.BatchEffects.{kept_answer}
use Rattle.streetmap_tables.proofs.RestsAfterRead.{rests_still, rests_if_open, the_row, no_row}
use Rattle.streetmap_tables.proofs.kept.kept_reply.Goals as goal

pub returns-in-Err-clause-reads_state : goal.returns-in-Err-clause-reads_state
returns-in-Err-clause-reads_state g c clean s rests =
    let old = state g.S.Store c.args.conn.now in
    let new = state g.S.Store c.kept_rows.new.conn in
    let r = c.in-Err.ensures.reads_state clean rests.unlimited s rests.kept.rows in
    (r.0, rests_if_open old new s r.1 (c.is_autocommit-idle.ensures.settled (search rules)) c.kept_rows.ensures.survives.limit rests)

pub returns-in-Err-clause-crash : goal.returns-in-Err-clause-crash
returns-in-Err-clause-crash g c clean s rests trees left = c.in-Err.ensures.crash clean s rests.kept.rows trees left

pub returns-clause-reads_state : goal.returns-clause-reads_state
returns-clause-reads_state g c clean s rests =
    let r = c.in-Ok.ensures.reads_state clean rests.unlimited s rests.kept.rows in
    let k = the_row kept_view (get s.keys c.args.key.now) c.deref.result.now c.in-Some.row.now (search rules) c.in-Some.ensures.value in
    let is = c.in_ok-reply.ensures.reads k.0 k.2 in
    let same : c.in_ok-reply.reply ≡ kept_answer c.args.text.now k.0 = cc in
    (rw (k.1, same) refl, rests_still (state g.S.Store c.args.conn.now) (state g.S.Store c.kept_rows.new.conn) s r.1 c.kept_rows.ensures.survives.limit rests)

pub returns-in_err-reply-clause-reads_state : goal.returns-in_err-reply-clause-reads_state
returns-in_err-reply-clause-reads_state g c clean s rests =
    let r = c.in-Ok.ensures.reads_state clean rests.unlimited s rests.kept.rows in
    let k = the_row kept_view (get s.keys c.args.key.now) c.deref.result.now c.in-Some.row.now (search rules) c.in-Some.ensures.value in
    let is = c.in_err-reply.ensures.reads k.0 k.2 in
    absurd (cc)

pub returns-in_default-clause-reads_state : goal.returns-in_default-clause-reads_state
returns-in_default-clause-reads_state g c clean s rests =
    let r = c.in-Ok.ensures.reads_state clean rests.unlimited s rests.kept.rows in
    let none = no_row kept_view (get s.keys c.args.key.now) c.deref.result.now (search rules) c.in_default.ensures.value in
    (rw none refl, rests_still (state g.S.Store c.args.conn.now) (state g.S.Store c.kept_rows.new.conn) s r.1 c.kept_rows.ensures.survives.limit rests)

pub returns-in-Err-clause-same : goal.returns-in-Err-clause-same
returns-in-Err-clause-same g c clean s rests live =
    let r = c.in-Err.ensures.reads_state clean rests.unlimited s rests.kept.rows in
    c.is_autocommit-idle.ensures.settled (search rules) live ∙ r.1.committed live ∙ sym rests.settled

pub returns-clause-same : goal.returns-clause-same
returns-clause-same g c clean s rests live = (c.in-Ok.ensures.reads_state clean rests.unlimited s rests.kept.rows).1.0.now_is

pub returns-in_err-reply-clause-same : goal.returns-in_err-reply-clause-same
returns-in_err-reply-clause-same g c clean s rests live = (c.in-Ok.ensures.reads_state clean rests.unlimited s rests.kept.rows).1.0.now_is

pub returns-in_default-clause-same : goal.returns-in_default-clause-same
returns-in_default-clause-same g c clean s rests live = (c.in-Ok.ensures.reads_state clean rests.unlimited s rests.kept.rows).1.0.now_is
