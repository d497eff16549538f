use Rattle.std.proofs.Common.{rules}
use Rattle.streetmap_rows.specs.Rows.{extent_in, seconds_in}
use Rattle.streetmap_checking.proofs.features.has_cells.Goals as goal

pub returns-then-has_extent : goal.returns-then-has_extent
unfolding extent_in seconds_in
returns-then-has_extent c = search rules
