use Rattle.std.proofs.Common.{◌≡◌, ◌++◌, drop, map, string_bytes}
use Rattle.serde_json.specs.View.{items_of}
use Rattle.serde_json.specs.Written.{items_text, compact_text}
use Rattle.streetmap_grid.specs.Views.{polygons_value}
use Rattle.streetmap_feature_text.specs.Written.{array_of, polygon_data}
use Rattle.streetmap_feature_text.proofs.feature_json.push_polygons.Given as goal

-- what is written and what is left make up the whole
abbrev pub invariant-loop-polygon : goal.invariant-loop-polygon
invariant-loop-polygon l =
    string_bytes l.out ++ items_text l.later (items_of (map polygon_data (polygons_value (drop l.polygon-index l.polygons))))
    ≡ string_bytes l.fn.out ++ compact_text (array_of polygon_data (polygons_value l.polygons))
