use Rattle.std.proofs.Common.{◌≤◌, ◌∙◌, ℕ, Err, sym, ap, subst, arith}
use Rattle.std.proofs.lemmas.Result.{err_from_is_err_and}
use Rattle.streetmap_ledger.specs.Kept.{batch_count}
use Rattle.streetmap_journal.specs.Starts.{Finds, start_answer}
use Rattle.streetmap_journal.specs.Written.{position_of}
use Rattle.streetmap_journal.proofs.StartLemmas.{answered_then, found_by, whole_reads, ended_reads, resumed_of, cut_by, holds_on}
use Rattle.streetmap_replay.specs.Calls.{AreReads}
use Rattle.streetmap_replay.proofs.CallsInTurn.{answered_read, failed_read, read_of, reads_then}
use Rattle.streetmap_journal.proofs.starts.start_journal.Goals as goal

pub returns-in-Err-clause-reads : goal.returns-in-Err-clause-reads
returns-in-Err-clause-reads g c = failed_read c.in-Err.ensures

pub returns-then-count-after-clause-reads : goal.returns-then-count-after-clause-reads
returns-then-count-after-clause-reads g c = answered_read c.in-Ok.ensures

pub returns-in_err-check_end-clause-reads : goal.returns-in_err-check_end-clause-reads
returns-in_err-check_end-clause-reads g c =
    let r = c.from_residual-in_err-check_end in
    let p = err_from_is_err_and r.result r.ensures.1 in
    subst (λ x. AreReads g.K.Keeper.model c.args.keeper.now c.match_place.new.keeper (start_answer x)) (sym (p.1 ∙ ap (λ x. Err x) p.2))
    (ended_reads (Unit {0}) c.in_ok-after.after c.in_ok-matched.matched c.in_err-check_end.field-0.0 c.in_err-check_end.ensures (answered_read c.in-Ok.ensures)
    c.in_ok-matched.ensures.reads)

pub returns-in-Ok-begin-clause-reads : goal.returns-in-Ok-begin-clause-reads
returns-in-Ok-begin-clause-reads g c = answered_then (answered_then (answered_read c.in-Ok.ensures)
    (whole_reads _ c.in_ok-check_end.ensures c.in_ok-matched.ensures.reads)) c.in-Ok-begin.ensures.reads

pub returns-in-Err-begin-clause-reads : goal.returns-in-Err-begin-clause-reads
returns-in-Err-begin-clause-reads g c = reads_then (whole_reads _ c.in_ok-check_end.ensures
    (reads_then (read_of c.in-Ok.ensures) c.in_ok-matched.ensures.reads)) c.in-Err-begin.ensures.reads

pub returns-in-Ok-begin-clause-starts : goal.returns-in-Ok-begin-clause-starts
returns-in-Ok-begin-clause-starts g c = λ h s e.
    let contents = g.P.JournalPlace.contents in
    let now = c.in-Ok-begin.ensures.reads.calls.began_clean h in
    let was = c.in_ok-matched.ensures.reads.calls.began_clean now in
    let seen = c.in-Ok.ensures.reads was s e in
    let requested = c.args.requested in
    let after = c.in_ok-after.after in
    let found = c.in_ok-matched.matched in
    let matches = c.in_ok-matched.ensures.compares now s seen.1 in
    let there = (whole_reads _ c.in_ok-check_end.ensures c.in_ok-matched.ensures.reads).stays now s seen.1 in
    let begun = c.in-Ok-begin.ensures.begins h s there in
    let made = c.resumed.ensures in
    let at = begun.0 ∙ made.1 in
    let finds = found_by s requested after (contents c.args.place.now)
    (contents c.serial_before.new.place) found
    c.in_ok-after.ensures.after c.in_ok-after.ensures.kept matches in
    let count = seen.0 in
    let few : after ≤ batch_count s = omega (arith, count, c.if-count-after.false) in
    let holds = resumed_of s (g.K.Keeper.model.well_formed c.args.keeper.now s e) requested after found
    (contents c.args.place.now) (contents c.serial_before.new.place)
    (contents c.match_place.new.place) (g.P.Writer.JournalWriter.contents c.resumed.result.writer)
    finds few c.in_ok-after.ensures.kept c.in_ok-matched.ensures.kept
    (cut_by (contents c.match_place.new.place) _ _ _ c.in_ok-writer.ensures.cut
    (ap g.P.Writer.JournalWriter.contents made.0))
    (position_of c.resumed.result) made.1 made.3 made.2 made.4 in (
      subst (λ (n : ℕ). n ≤ batch_count s) (sym at) few,
      (
        found,
        subst (λ (n : ℕ). Finds s requested n (contents c.args.place.now) found) (sym at) finds,
        c.in_ok-check_end.ensures,
      ),
      holds_on (contents c.args.place.now) _ _ holds begun.1,
    )
