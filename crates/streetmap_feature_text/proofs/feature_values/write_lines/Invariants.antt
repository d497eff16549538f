use Rattle.std.proofs.Common.{◌≡◌, map, take}
use Rattle.serde_json.specs.View.{view}
use Rattle.streetmap_grid.specs.Views.{lines_value}
use Rattle.streetmap_feature_text.specs.Written.{line_data}
use Rattle.streetmap_feature_text.proofs.feature_values.write_lines.Given as goal

abbrev pub invariant-loop-line : goal.invariant-loop-line
invariant-loop-line l = map view l.written.items ≡ map line_data (lines_value (take l.line-index l.lines))
