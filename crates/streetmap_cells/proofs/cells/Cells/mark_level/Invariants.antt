use Rattle.std.proofs.Common.{ℕ, ◌<◌, ◌≤◌}
use Rattle.streetmap_cells.specs.Searches.{IsRowSearched, KeepsMarks}
use Rattle.streetmap_cells.proofs.cells.Cells.mark_level.Given as goal

abbrev pub invariant-loop-row : goal.invariant-loop-row
invariant-loop-row l = record {
  searched : (row : ℕ) → l.low ≤ row → row < l.row → IsRowSearched l.self l.window l.marks l.level row l.first l.last;
  kept : KeepsMarks l.fn.marks l.marks;
}
