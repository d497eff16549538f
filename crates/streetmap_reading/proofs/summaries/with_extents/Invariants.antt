use Rattle.std.proofs.Common.{◌≡◌, false, length}
use Rattle.std.specs.Vec.Iter.{into_iter_items, into_iter_len}
use Rattle.sqlite.specs.Held.{state}
use Rattle.streetmap_reading.proofs.CollectionsInTurn.{SoFar}
use Rattle.streetmap_reading.proofs.summaries.with_extents.Given as goal

abbrev pub invariant-loop-head : goal.invariant-loop-head
invariant-loop-head g l =
    (goal.iterator-loop-head g).can_next l.head-iterator × (goal.iterator-loop-head g).is_finite l.head-iterator
    × (length (into_iter_items l.head-iterator) ≡ into_iter_len l.head-iterator) × (l.fn.conn.in_transaction ≡ false → l.conn.in_transaction ≡ false)
    × SoFar (state g.S.Store l.fn.conn) (state g.S.Store l.conn) l.fn.heads.items (into_iter_items l.head-iterator) l.summaries.items
