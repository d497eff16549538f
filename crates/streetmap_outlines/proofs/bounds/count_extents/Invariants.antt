use Rattle.std.proofs.Common.{◌≡◌, ◌≤◌, take}
use Rattle.std.specs.List.{count_by}
use Rattle.streetmap_outlines.specs.Outlines.{has_extent}
use Rattle.streetmap_outlines.proofs.bounds.count_extents.Given as goal

-- this number of the outlines so far have an extent
abbrev pub invariant-loop-outline : goal.invariant-loop-outline
invariant-loop-outline l = record {
  counted : l.count ≡ count_by has_extent (take l.outline-index l.outlines);
  few : l.count ≤ l.outline-index;
}
