use Rattle.std.proofs.Common.{◌≡◌, ◌++◌, drop, map, string_bytes}
use Rattle.serde_json.specs.View.{items_of}
use Rattle.serde_json.specs.Written.{items_text, compact_text}
use Rattle.streetmap_grid.specs.Views.{positions_value}
use Rattle.streetmap_feature_text.specs.Written.{line_data, position_data}
use Rattle.streetmap_feature_text.proofs.feature_json.push_positions.Given as goal

-- what is written and what is left make up the whole
abbrev pub invariant-loop-position : goal.invariant-loop-position
invariant-loop-position l =
    string_bytes l.out ++ items_text l.later (items_of (map position_data (positions_value (drop l.position-index l.positions))))
    ≡ string_bytes l.fn.out ++ compact_text (line_data (positions_value l.positions))
