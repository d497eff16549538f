use Rattle.std.proofs.Common.{take}
use Rattle.streetmap_outlines.specs.Outlines.{AreListed}
use Rattle.streetmap_outlines.proofs.in_cells.cells_of.Given as goal

-- the extents of the chunks so far are in the cells
abbrev pub invariant-loop-chunk : goal.invariant-loop-chunk
invariant-loop-chunk l = AreListed l.cells (take l.chunk-index l.chunks)
