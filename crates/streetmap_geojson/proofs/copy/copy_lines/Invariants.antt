use Rattle.std.proofs.Common.{◌≡◌, take}
use Rattle.streetmap_grid.specs.Views.{lines_value}
use Rattle.streetmap_geojson.proofs.copy.copy_lines.Given as goal

abbrev pub invariant-loop-line : goal.invariant-loop-line
invariant-loop-line l = lines_value l.copies.items ≡ lines_value (take l.line-index l.lines)
