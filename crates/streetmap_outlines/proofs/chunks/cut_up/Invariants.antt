use Rattle.std.proofs.Common.{◌≡◌, ◌<◌, ◌++◌, All, length, reverse}
use Rattle.streetmap_ledger.specs.OutlineView.{feature_outline_values}
use Rattle.streetmap_outlines.specs.Outlines.{joined_runs}
use Rattle.streetmap_outlines.proofs.chunks.cut_up.Given as goal

-- the runs cut off so far, the last one first, come after what is left
abbrev pub invariant-loop-outlines : goal.invariant-loop-outlines
invariant-loop-outlines l = record {
  same : feature_outline_values l.outlines.items ++ feature_outline_values (joined_runs (reverse l.runs.items)) ≡ feature_outline_values l.fn.outlines.items;
  filled : All (λ run. 0 < length run.items) l.runs.items;
}

abbrev pub decreases-loop-outlines : goal.decreases-loop-outlines
decreases-loop-outlines l = length l.outlines.items
