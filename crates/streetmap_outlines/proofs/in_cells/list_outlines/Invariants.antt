use Rattle.std.proofs.Common.{take}
use Rattle.streetmap_cells.specs.Cells.{KeepsExtents}
use Rattle.streetmap_outlines.specs.Outlines.{AreListedUnder}
use Rattle.streetmap_outlines.proofs.in_cells.list_outlines.Given as goal

-- the extents of the outlines so far are in the cells, and all that were in them before
abbrev pub invariant-loop-outline : goal.invariant-loop-outline
invariant-loop-outline l = record {
  kept : KeepsExtents l.fn.cells l.cells;
  listed : AreListedUnder l.cells l.number (take l.outline-index l.outlines);
}
