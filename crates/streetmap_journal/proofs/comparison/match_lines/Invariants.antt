use Rattle.std.specs.Prelude.{None}
use Rattle.streetmap_ledger.specs.State.{State}
use Rattle.streetmap_replay.specs.Calls.{AreReads}
use Rattle.streetmap_journal.proofs.LinesSoFar.{SoFar}
use Rattle.streetmap_journal.proofs.comparison.match_lines.Given as goal

-- that many lines are those of the journal
abbrev pub invariant-loop-turn : goal.invariant-loop-turn
invariant-loop-turn g l =
    let model = g.K.Keeper.model in
    record {
      reads : AreReads model l.fn.keeper l.keeper None;
      alike : model.is_clean l.keeper → (s : State) → model.represents l.fn.keeper s →
          SoFar s l.after (g.R.Read.remaining l.fn.reader) (g.R.Read.remaining l.reader) l.turn l.bytes;
    }
