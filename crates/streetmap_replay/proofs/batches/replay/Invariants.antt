use Rattle.std.proofs.Common.{None}
use Rattle.streetmap_ledger.specs.State.{State, opening_state}
use Rattle.streetmap_replay.specs.Calls.{AreCalls, AreReads}
use Rattle.streetmap_replay.specs.Given.{GivesFirst}
use Rattle.streetmap_replay.proofs.batches.replay.Given as goal

-- that number of batches were reproduced, and the first keeper's state stays
abbrev pub invariant-loop-turn : goal.invariant-loop-turn
invariant-loop-turn g l =
    let kept = g.K.Keeper.model in
    let fresh = g.L.Keeper.model in
    record {
      reads : AreReads kept l.fn.keeper l.keeper None;
      calls : AreCalls fresh l.fn.fresh l.fresh None;
      given : kept.is_clean l.keeper → fresh.is_clean l.fresh → (s : State) →
          kept.represents l.fn.keeper s → fresh.represents l.fn.fresh opening_state →
          (t : State) × GivesFirst s l.last t × fresh.represents l.fresh t;
    }
