use Rattle.std.proofs.Common.{◌≡◌, ◌++◌, drop, map, string_bytes}
use Rattle.serde_json.specs.View.{items_of}
use Rattle.serde_json.specs.Written.{items_text, compact_text}
use Rattle.streetmap_grid.specs.Views.{rings_value}
use Rattle.streetmap_feature_text.specs.Written.{line_data, polygon_data}
use Rattle.streetmap_feature_text.proofs.feature_json.push_rings.Given as goal

-- what is written and what is left make up the whole
abbrev pub invariant-loop-ring : goal.invariant-loop-ring
invariant-loop-ring l =
    string_bytes l.out ++ items_text l.later (items_of (map line_data (rings_value (drop l.ring-index l.rings))))
    ≡ string_bytes l.fn.out ++ compact_text (polygon_data (rings_value l.rings))
