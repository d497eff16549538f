use Rattle.std.proofs.Common.{◌≡◌, length}
use Rattle.streetmap_outlines.specs.Outlines.{AreExtentsOf}
use Rattle.streetmap_outlines.proofs.extent_column.keep_extents.Given as goal

-- the extents of the outlines so far are kept
abbrev pub invariant-loop-outline : goal.invariant-loop-outline
invariant-loop-outline l = record {
  count : length l.extents.items ≡ l.outline-index;
  kept : AreExtentsOf l.extents.items l.outlines;
}
