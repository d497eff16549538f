use Rattle.std.proofs.Common.{ℕ, ◌<◌, ◌≤◌}
use Rattle.streetmap_cells.specs.Searches.{IsCellSearched, KeepsMarks}
use Rattle.streetmap_cells.proofs.cells.Cells.mark_row.Given as goal

abbrev pub invariant-loop-column : goal.invariant-loop-column
invariant-loop-column l = record {
  searched : (column : ℕ) → l.first ≤ column → column < l.column → IsCellSearched l.self l.window l.marks l.level column l.row;
  kept : KeepsMarks l.fn.marks l.marks;
}
