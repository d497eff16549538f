use Rattle.std.proofs.Common.{◌≡◌, map, take}
use Rattle.serde_json.specs.View.{view}
use Rattle.streetmap_grid.specs.Views.{rings_value}
use Rattle.streetmap_feature_text.specs.Written.{line_data}
use Rattle.streetmap_feature_text.proofs.feature_values.write_rings.Given as goal

abbrev pub invariant-loop-ring : goal.invariant-loop-ring
invariant-loop-ring l = map view l.written.items ≡ map line_data (rings_value (take l.ring-index l.rings))
