use Rattle.std.proofs.Common.{take}
use Rattle.streetmap_cells.specs.Searches.{AreMarked, KeepsMarks}
use Rattle.streetmap_cells.proofs.cells.Cells.mark_entries.Given as goal

abbrev pub invariant-loop-entry : goal.invariant-loop-entry
invariant-loop-entry l = record {
  marked : AreMarked l.window l.marks (take l.entry-index l.entries);
  kept : KeepsMarks l.fn.marks l.marks;
}
