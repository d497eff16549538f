use Rattle.std.proofs.Common.{◌≡◌, ◌≤◌, List, ◌++◌, All, length}
use Rattle.std.specs.List.{count_by}
use Rattle.std.specs.Slice.Iter.{chunks_rest, chunks_size}
use Rattle.streetmap_cells.specs.Envelopes.{overlaps}
use Rattle.streetmap_cells.specs.declared.envelope.Envelope.{Envelope}
use Rattle.streetmap_outlines.specs.Within.{DecidesMeeting}
use Rattle.streetmap_outlines.proofs.extent_column.count_in_window.Given as goal

-- the count of extents so far that overlap the window, each of which has three bounds in it
abbrev pub invariant-loop-block : goal.invariant-loop-block
invariant-loop-block l =
    goal.iterator-loop-block.can_next l.block-iterator
    × goal.iterator-loop-block.is_finite l.block-iterator
    × (chunks_size l.block-iterator ≡ 4096)
    × ((done : List Envelope) × (done ++ chunks_rest l.block-iterator ≡ l.extents)
    × (l.count ≡ count_by (λ e. overlaps e l.window) done)
    × (l.count ≤ length done)
    × All (λ e. DecidesMeeting e l.window) done)
