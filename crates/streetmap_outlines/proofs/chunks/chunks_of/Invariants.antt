use Rattle.std.proofs.Common.{◌≡◌, ◌<◌, ◌++◌, All, length}
use Rattle.std.specs.Vec.Iter.{into_iter_items}
use Rattle.streetmap_outlines.specs.Outlines.{joined, joined_runs, AreFilled, AreBounded}
use Rattle.streetmap_outlines.proofs.chunks.chunks_of.Given as goal

-- the chunks so far have the outlines of the runs before those that are left
abbrev pub invariant-loop-run : goal.invariant-loop-run
invariant-loop-run l = record {
  goes : goal.iterator-loop-run.can_next l.run-iterator;
  ends : goal.iterator-loop-run.is_finite l.run-iterator;
  same : joined l.chunks.items ++ joined_runs (into_iter_items l.run-iterator) ≡ joined_runs l.fn.runs.items;
  filled : All (λ run. 0 < length run.items) l.fn.runs.items → AreFilled l.chunks.items × All (λ run. 0 < length run.items) (into_iter_items l.run-iterator);
  bounded : AreBounded l.chunks.items;
}
