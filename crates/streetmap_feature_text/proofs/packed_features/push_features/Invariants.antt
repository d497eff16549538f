use Rattle.std.proofs.Common.{◌≡◌, ◌++◌, drop, map, string_bytes}
use Rattle.serde_json.specs.View.{items_of}
use Rattle.serde_json.specs.Written.{items_text, compact_text}
use Rattle.streetmap_feature_text.specs.Written.{array_of, feature_data}
use Rattle.streetmap_feature_text.proofs.packed_features.push_features.Given as goal

-- what is written and what is left make up the whole
abbrev pub invariant-loop-feature : goal.invariant-loop-feature
invariant-loop-feature l =
    string_bytes l.out ++ items_text l.later (items_of (map feature_data (drop l.feature-index l.features)))
    ≡ string_bytes l.fn.out ++ compact_text (array_of feature_data l.features)
