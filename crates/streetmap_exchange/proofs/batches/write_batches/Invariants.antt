use Rattle.std.proofs.Common.{None}
use Rattle.streetmap_ledger.specs.State.{State}
use Rattle.streetmap_replay.specs.Calls.{AreReads}
use Rattle.streetmap_exchange.proofs.Printing.{Underway}
use Rattle.streetmap_exchange.proofs.batches.write_batches.Given as goal

-- the lines up to this serial are written, and the state stays
abbrev pub invariant-loop-turn : goal.invariant-loop-turn
invariant-loop-turn g l =
    let model = g.K.Keeper.model in
    let contents = g.W.Write.contents in
    record {
      reads : AreReads model l.fn.keeper l.keeper None;
      underway : model.is_clean l.keeper → (s : State) → model.represents l.fn.keeper s →
          Underway s l.after l.last (contents l.fn.writer) (contents l.writer);
    }
