use Rattle.std.specs.Prelude.{◌≡◌, None}
use Rattle.streetmap_ledger.specs.State.{State}
use Rattle.streetmap_replay.specs.Calls.{AreReads}
use Rattle.streetmap_journal.specs.Reports.{WriterIsInformed}
use Rattle.streetmap_journal.specs.Written.{HoldsIn}
use Rattle.streetmap_journal.proofs.completion.complete.Given as goal

-- the keeper was only read, and the journal holds what it has to
abbrev pub invariant-loop-turn : goal.invariant-loop-turn
invariant-loop-turn g l =
    let model = g.K.Keeper.model in
    record {
      reads : AreReads model l.fn.keeper l.keeper None;
      after : l.journal.after ≡ l.fn.journal.after;
      behind : l.journal.is_behind ≡ l.fn.journal.is_behind;
      reported : WriterIsInformed g.W.JournalWriter.reported g.W.JournalWriter.is_kept l.fn.journal →
          WriterIsInformed g.W.JournalWriter.reported g.W.JournalWriter.is_kept l.journal;
      goes : g.W.JournalWriter.goes l.fn.journal.writer l.journal.writer;
      holds : model.is_clean l.keeper → (s : State) → model.represents l.fn.keeper s →
          HoldsIn g.W.JournalWriter.contents l.fn.journal s → HoldsIn g.W.JournalWriter.contents l.journal s;
    }
