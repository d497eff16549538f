use Rattle.std.proofs.Common.{◌≡◌, ◌↔◌, ◌≤◌, All, take, true}
use Rattle.std.specs.List.{count_by}
use Rattle.streetmap_cells.specs.Envelopes.{overlaps}
use Rattle.streetmap_outlines.specs.Within.{DecidesMeeting}
use Rattle.streetmap_outlines.proofs.extent_column.count_in_block.Given as goal

-- the count of extents so far that overlap the window; whether each has three bounds in it
abbrev pub invariant-loop-extent : goal.invariant-loop-extent
invariant-loop-extent l = record {
  counted : l.count ≡ count_by (λ e. overlaps e l.window) (take l.extent-index l.extents);
  few : l.count ≤ l.extent-index;
  reported : l.is_decided ≡ true ↔ All (λ e. DecidesMeeting e l.window) (take l.extent-index l.extents);
}
