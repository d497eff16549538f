use Rattle.std.proofs.Common.{◌≡◌, None, take}
use Rattle.std.specs.FinMap.{entries}
use Rattle.streetmap_ledger.specs.State.{State}
use Rattle.streetmap_ledger.specs.Summaries.{summaries_in}
use Rattle.streetmap_ledger.specs.SummaryView.{summary_values}
use Rattle.streetmap_replay.specs.Alike.{AreSame}
use Rattle.streetmap_replay.specs.Calls.{AreReads}
use Rattle.streetmap_replay.proofs.collections.compare_each.Given as goal

-- that number of collections are the same, and both states stay
abbrev pub invariant-loop-summary : goal.invariant-loop-summary
invariant-loop-summary g l =
    let kept = g.K.Keeper.model in
    let fresh = g.L.Keeper.model in
    record {
      kept_reads : AreReads kept l.fn.keeper l.keeper None;
      fresh_reads : AreReads fresh l.fn.fresh l.fresh None;
      same : kept.is_clean l.keeper → fresh.is_clean l.fresh → (s t : State) →
          kept.represents l.fn.keeper s → fresh.represents l.fn.fresh t →
          summary_values l.ours ≡ summaries_in s →
          AreSame s t (take l.summary-index (entries s.collections));
    }
