use Rattle.std.proofs.Common.{◌≡◌, ◌++◌, drop, map, string_bytes}
use Rattle.serde_json.specs.View.{items_of}
use Rattle.serde_json.specs.Written.{items_text, compact_text}
use Rattle.streetmap_grid.specs.Views.{lines_value}
use Rattle.streetmap_feature_text.specs.Written.{array_of, line_data}
use Rattle.streetmap_feature_text.proofs.feature_json.push_lines.Given as goal

-- what is written and what is left make up the whole
abbrev pub invariant-loop-line : goal.invariant-loop-line
invariant-loop-line l =
    string_bytes l.out ++ items_text l.later (items_of (map line_data (lines_value (drop l.line-index l.lines))))
    ≡ string_bytes l.fn.out ++ compact_text (array_of line_data (lines_value l.lines))
