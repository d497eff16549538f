use Rattle.std.proofs.Common.{ℕ, ◌<◌}
use Rattle.streetmap_cells.specs.Searches.{IsLevelSearched, KeepsMarks}
use Rattle.streetmap_cells.proofs.cells.Cells.mark.Given as goal

abbrev pub invariant-loop-level : goal.invariant-loop-level
invariant-loop-level l = record {
  searched : (level : ℕ) → level < l.level → IsLevelSearched l.self l.window l.marks level;
  kept : KeepsMarks l.fn.marks l.marks;
}
