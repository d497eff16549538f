use Rattle.std.proofs.Common.{◌≡◌, ◌+◌, ℕ, length, None}
use Rattle.streetmap_ledger.specs.Kept.{batches_next}
use Rattle.streetmap_ledger.specs.KeptView.{keyed_batches}
use Rattle.streetmap_ledger.specs.State.{State}
use Rattle.streetmap_ledger.specs.WellFormed.{IsState}
use Rattle.streetmap_replay.specs.Calls.{AreCalls}
use Rattle.streetmap_replay.specs.Given.{GivesFirst}
use Rattle.streetmap_replay.proofs.batches.give_each.Given as goal

-- that number of batches of the part were reproduced
abbrev pub invariant-loop-batch : goal.invariant-loop-batch
invariant-loop-batch g l =
    let fresh = g.L.Keeper.model in
    record {
      calls : AreCalls fresh l.fn.fresh l.fresh None;
      given : fresh.is_clean l.fresh → (s : State) (n : ℕ) (t : State) → IsState s →
          GivesFirst s n t → fresh.represents l.fn.fresh t →
          keyed_batches l.part ≡ batches_next s n (length l.part) →
          (u : State) × GivesFirst s (n + l.batch-index) u × fresh.represents l.fresh u;
    }
