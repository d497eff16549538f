use Rattle.std.proofs.Common.{◌≡◌, ◌∙◌, List, ℕ, Some, sym, subst, true, false}
use Rattle.streetmap_replay.proofs.CallsInTurn.{read_of, failed_read, reads_then}
use Rattle.streetmap_journal.specs.Completion.{IsKeptLine}
use Rattle.streetmap_journal.specs.Reports.{WriterIsInformed}
use Rattle.streetmap_journal.specs.Written.{position_of}
use Rattle.streetmap_journal.proofs.LineAfterBatch.{completed_holds, settled_holds}
use Rattle.streetmap_journal.proofs.Reports.{still_reported}
use Rattle.streetmap_journal.proofs.completion.complete.Goals as goal

pub loop-turn-preserved : goal.loop-turn-preserved
loop-turn-preserved g c =
    let inv = c.loop-turn.invariant in
    let says = c.in-Ok-Some.ensures in
    record {
      reads = reads_then inv.reads (read_of says);
      after = c.put.ensures.after ∙ inv.after;
      behind = c.put.ensures.behind ∙ inv.behind;
      reported = λ h. still_reported c.loop-turn.journal.is_behind c.put.new.self.is_behind _ _ _ _ _ _
          c.if-not-journal.false c.put.ensures.behind c.put.ensures.next c.put.ensures.reported
          (inv.reported h);
      goes = g.met.W.JournalWriter.goes_then _ _ _ inv.goes c.put.ensures.goes;
      holds = λ h s e j.
          let was = says.call.began_clean h in
          let it = inv.reads.stays was s e in
          let found = rw c.in-Ok-Some.field-0-is at (says.reads h s it) in
          let kept = subst
          (λ (bytes : List ℕ). IsKeptLine s c.loop-turn.journal.next (Some bytes))
          (sym c.as_slice.ensures.value) found.0 in
          completed_holds s (g.K.Keeper.model.well_formed c.loop-turn.keeper s it) c.put.result
          (position_of c.loop-turn.journal) (position_of c.put.new.self) _ _ c.as_slice.result.now
          c.if-not-journal.false kept
          c.put.ensures.line (inv.holds was s e j);
    }

pub returns-then-not-put-clause-reads : goal.returns-then-not-put-clause-reads
returns-then-not-put-clause-reads g c = reads_then c.loop-turn.invariant.reads (read_of c.in-Ok-Some.ensures)

pub returns-then-not-put-clause-holds : goal.returns-then-not-put-clause-holds
returns-then-not-put-clause-holds g c = λ h s e j.
    let inv = c.loop-turn.invariant in
    let says = c.in-Ok-Some.ensures in
    let was = says.call.began_clean h in
    let it = inv.reads.stays was s e in
    let found = rw c.in-Ok-Some.field-0-is at (says.reads h s it) in
    let kept = subst (λ (bytes : List ℕ). IsKeptLine s c.loop-turn.journal.next (Some bytes))
    (sym c.as_slice.ensures.value) found.0 in
    completed_holds s (g.K.Keeper.model.well_formed c.loop-turn.keeper s it) c.put.result
    (position_of c.loop-turn.journal) (position_of c.put.new.self) _ _ c.as_slice.result.now
    c.if-not-journal.false kept c.put.ensures.line
    (inv.holds was s e j)

pub returns-then-not-put-clause-reported : goal.returns-then-not-put-clause-reported
returns-then-not-put-clause-reported g c = λ h.
    still_reported c.loop-turn.journal.is_behind c.put.new.self.is_behind _ _ _ _ _ _
    c.if-not-journal.false c.put.ensures.behind c.put.ensures.next c.put.ensures.reported
    (c.loop-turn.invariant.reported h)

pub returns-in-Ok-None-clause-reads : goal.returns-in-Ok-None-clause-reads
returns-in-Ok-None-clause-reads g c = reads_then c.loop-turn.invariant.reads (read_of c.in-Ok-None.ensures)

pub returns-in-Ok-None-clause-holds : goal.returns-in-Ok-None-clause-holds
returns-in-Ok-None-clause-holds g c = λ h s e j.
    let inv = c.loop-turn.invariant in
    let says = c.in-Ok-None.ensures in
    let was = says.call.began_clean h in
    let it = inv.reads.stays was s e in
    let found = rw c.in-Ok-None.field-0-is at (says.reads h s it) in
    let same = c.settle.ensures.position in
    settled_holds s (g.K.Keeper.model.well_formed c.loop-turn.keeper s it)
    (position_of c.loop-turn.journal) (position_of c.settle.new.self) _ _ found.0 same.0 same.1
    same.2 c.settle.ensures.bytes (inv.holds was s e j)

pub returns-in-Err : goal.returns-in-Err
returns-in-Err g c =
    let inv = c.loop-turn.invariant in
    let says = c.in-Err.ensures in
    let W = g.W.JournalWriter in
    record {
      reads = reads_then inv.reads (failed_read says);
      after = inv.after;
      reported = inv.reported;
      whole = λ was is. absurd {A = WriterIsInformed W.reported W.is_kept c.loop-turn.journal}
          (let no : true ≡ false = sym was ∙ (sym inv.behind ∙ is) in cc);
      goes = inv.goes;
      failed = λ ok was. absurd {A = W.fails c.args.journal.now.writer c.loop-turn.journal.writer}
          (let no : false ≡ true = ok in cc);
      holds = λ h s e j. inv.holds (says.call.began_clean h) s e j;
    }

pub returns : goal.returns
returns g c =
    let inv = c.loop-turn.invariant in
    let says = c.refuse.ensures in
    let W = g.W.JournalWriter in
    record {
      reads = reads_then inv.reads says;
      after = inv.after;
      reported = inv.reported;
      whole = λ was is. absurd {A = WriterIsInformed W.reported W.is_kept c.loop-turn.journal}
          (let no : true ≡ false = sym was ∙ (sym inv.behind ∙ is) in cc);
      goes = inv.goes;
      failed = λ ok was. absurd {A = W.fails c.args.journal.now.writer c.loop-turn.journal.writer}
          (let no : false ≡ true = ok in cc);
      holds = λ h s e j. inv.holds (says.calls.began_clean h) s e j;
    }
