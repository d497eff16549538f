use Rattle.std.proofs.Common.{◌≡◌, Some, None}
use Rattle.std.specs.FinMap.{get, values}
use Rattle.streetmap_ledger.specs.State.{State, Collection}
use Rattle.streetmap_replay.specs.Calls.{AreReads}
use Rattle.streetmap_replay.proofs.Pages.{SameSoFar}
use Rattle.streetmap_replay.proofs.features.has_same_features.Given as goal

-- the features up to an id are the same, and both states stay
abbrev pub invariant-loop-turn : goal.invariant-loop-turn
invariant-loop-turn g l =
    let kept = g.K.Keeper.model in
    let fresh = g.L.Keeper.model in
    record {
      kept_reads : AreReads kept l.fn.keeper l.keeper None;
      fresh_reads : AreReads fresh l.fn.fresh l.fresh None;
      so_far : kept.is_clean l.keeper → fresh.is_clean l.fresh → (s t : State) → (c d : Collection) →
          kept.represents l.fn.keeper s → fresh.represents l.fn.fresh t →
          get s.collections l.name ≡ Some c → get t.collections l.name ≡ Some d →
          c.time ≡ d.time → SameSoFar (values c.features) (values d.features) l.after;
    }
