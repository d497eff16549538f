use Rattle.std.proofs.Common.{◌≡◌, ◌++◌, drop, map, string_bytes}
use Rattle.serde_json.specs.View.{items_of}
use Rattle.serde_json.specs.Written.{items_text, compact_text}
use Rattle.streetmap_grid.specs.Views.{simples_value}
use Rattle.streetmap_feature_text.specs.Written.{array_of, simple_data}
use Rattle.streetmap_feature_text.proofs.feature_json.push_simples.Given as goal

-- what is written and what is left make up the whole
abbrev pub invariant-loop-geometry : goal.invariant-loop-geometry
invariant-loop-geometry l =
    string_bytes l.out ++ items_text l.later (items_of (map simple_data (simples_value (drop l.geometry-index l.geometries))))
    ≡ string_bytes l.fn.out ++ compact_text (array_of simple_data (simples_value l.geometries))
