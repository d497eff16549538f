use Rattle.std.proofs.Common.{◌≡◌, length}
use Rattle.std.specs.Vec.Iter.{into_iter_items, into_iter_len}
use Rattle.streetmap_index.proofs.Runs.{TakenSoFar}
use Rattle.streetmap_index.proofs.run.take_all.Given as goal

abbrev pub invariant-loop-feature : goal.invariant-loop-feature
invariant-loop-feature l = record {
  goes : goal.iterator-loop-feature.can_next l.feature-iterator;
  ends : goal.iterator-loop-feature.is_finite l.feature-iterator;
  long : length (into_iter_items l.feature-iterator) ≡ into_iter_len l.feature-iterator;
  so_far : TakenSoFar l.outlines l.fn.features.items (into_iter_items l.feature-iterator) l.fn.fold l.fold l.place;
}
