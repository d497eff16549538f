use Rattle.std.proofs.Common.{Some, Result, Err, refl}
use Rattle.streetmap_ledger.specs.declared.reply.Fault.{Fault}
use Rattle.streetmap_ledger.specs.declared.reply.Reply.{Reply}
use Rattle.streetmap_batch.specs.BatchView.{batch_value}
use Rattle.streetmap_replay.proofs.CallsInTurn.{call_from, call_after}
use Rattle.streetmap_journal.specs.Reports.{IsFor, IsWholeUnless, ReachesUnless}
use Rattle.streetmap_journal.proofs.Over.{of_reply, state_by, writes_from, not_requested, none_for, for_after, call_over, writes_over}
use Rattle.streetmap_journal.proofs.Reports.{fails_through, with_reply}
use Rattle.streetmap_journal.proofs.keeper.JournaledKeeperKeeper.apply.Goals as goal

-- the missing lines could not be written, since the keeper failed
pub returns-in-Err : goal.returns-in-Err
returns-in-Err g c =
    let model = g.K.Keeper.model in
    let W = g.W.JournalWriter in
    let says = c.in-Err.ensures in
    record {
      applied = (c.complete.new.keeper, says.reads.calls.preserved, tt);
      call = call_over model W.contents W.reported W.is_kept W.fails (call_from says.reads.calls);
      writes = λ h s e.
          let before = rw c.in-Some.is at e.1 in
          let b = batch_value c.args.batch.now in
          let after : IsFor W.contents W.reported W.is_kept c.complete.new.journal s = (
            says.reported before.0,
            λ reports.
                says.holds h s e.0 (before.1 reports),
          ) in
          writes_over model W.contents W.reported W.is_kept W.fails c.args.self.now (record c.args.self.now
          { keeper = c.complete.new.keeper; journal = Some c.complete.new.journal }) s b (Err c.in-Err.fault)
          (not_requested model c.args.self.now.keeper c.complete.new.keeper s b c.in-Err.fault (says.reads.stays h s e.0)) after;
    }

pub returns-in-Ok : goal.returns-in-Ok
returns-in-Ok g c =
    let model = g.K.Keeper.model in
    let W = g.W.JournalWriter in
    let b = batch_value c.args.batch.now in
    let first = c.in-Some.journal in
    let mid = c.complete.new.journal in
    let last = c.apply_and_note.new.journal in
    let says = c.in-Ok.ensures in
    let noted = c.apply_and_note.ensures in
    let reaches : IsWholeUnless W.fails first last = λ is.
    fails_through W.goes W.fails g.met.W.JournalWriter.fails_later g.met.W.JournalWriter.fails_still first.writer mid.writer
    last.writer mid.is_behind says.goes noted.goes (says.failed refl) (λ whole. noted.failed whole is) in
    record {
      applied = (
        c.complete.new.keeper,
        says.reads.calls.preserved,
        with_reply (λ r. model.applies c.complete.new.keeper b r c.apply_and_note.new.keeper)
            (ReachesUnless W.fails c.args.self.now.journal (Some last)) c.apply_and_note.result
            (rw c.in-Some.is reaches) noted.applied,
      );
      call = call_over model W.contents W.reported W.is_kept W.fails (call_after says.reads.calls noted.call);
      writes = λ h s e.
          let was = noted.call.began_clean h in
          let it = says.reads.stays was s e.0 in
          let before = rw c.in-Some.is at e.1 in
          let completed : IsFor W.contents W.reported W.is_kept mid s = (says.reported before.0, λ reports. says.holds was s e.0 (before.1 reports)) in
          writes_over model W.contents W.reported W.is_kept W.fails c.args.self.now (record c.args.self.now
          { keeper = c.apply_and_note.new.keeper; journal = Some last }) s b c.apply_and_note.result
          (writes_from model c.args.self.now.keeper c.complete.new.keeper c.apply_and_note.new.keeper s b c.apply_and_note.result
          (model.fails_later _ _ _ says.reads.calls.preserved noted.call.preserved) (noted.writes h s it))
          (for_after W.contents W.reported W.is_kept s b c.apply_and_note.result mid last noted.untouched (noted.noted h s it completed) completed);
    }

pub returns-in-None : goal.returns-in-None
returns-in-None g c =
    let model = g.K.Keeper.model in
    let W = g.W.JournalWriter in
    let b = batch_value c.args.batch.now in
    let journal = c.args.self.now.journal in
    let says = c.apply.ensures in
    let applies : Result Reply Fault → Type 0 = λ r. model.applies c.args.self.now.keeper b r c.apply.new.self in
    record {
      applied = (
        c.args.self.now.keeper,
        model.preserves_itself c.args.self.now.keeper,
        with_reply applies (ReachesUnless W.fails journal journal) c.apply.result (rw c.in-None.is tt) (of_reply applies c.apply.result says.applied),
      );
      call = call_over model W.contents W.reported W.is_kept W.fails says.call;
      writes = λ h s e. writes_over model W.contents W.reported W.is_kept W.fails c.args.self.now (record c.args.self.now { keeper = c.apply.new.self }) s b
          c.apply.result (says.writes h s e.0)
          (none_for W.contents W.reported W.is_kept journal (state_by s b c.apply.result) c.in-None.is);
    }
