use Rattle.std.proofs.Common.{◌≡◌, length}
use Rattle.streetmap_cells.specs.Cells.{KeepsExtents}
use Rattle.streetmap_cells.proofs.cells.Cells.shrink_to_fit.Given as goal

-- the number of buckets is as before, and no extent is lost
abbrev pub invariant-loop-bucket : goal.invariant-loop-bucket
invariant-loop-bucket l = record {
  count : length l.self.buckets.items ≡ l.bucket-end;
  kept : KeepsExtents l.fn.self l.self;
}
