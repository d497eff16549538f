use Rattle.std.proofs.Common.{None}
use Rattle.streetmap_ledger.specs.State.{State}
use Rattle.streetmap_replay.specs.Calls.{AreCalls}
use Rattle.streetmap_replay.proofs.FollowedSoFar.{Underway}
use Rattle.streetmap_replay.proofs.follower.follow_lines.Given as goal

-- that number of lines were followed, and their replies reported
abbrev pub invariant-loop-turn : goal.invariant-loop-turn
invariant-loop-turn g l =
    let model = g.K.Keeper.model in
    record {
      calls : AreCalls model l.fn.keeper l.keeper None;
      underway : model.is_clean l.keeper → (s : State) → model.represents l.fn.keeper s →
          Underway model l.keeper s (g.R.Read.remaining l.fn.reader) (g.R.Read.remaining l.reader)
          g.T.Replies.reports l.fn.replies l.replies l.turn;
    }
