use Rattle.std.proofs.Common.{◌≡◌, map, take}
use Rattle.serde_json.specs.View.{view}
use Rattle.streetmap_grid.specs.Views.{positions_value}
use Rattle.streetmap_feature_text.specs.Written.{position_data}
use Rattle.streetmap_feature_text.proofs.feature_values.write_positions.Given as goal

abbrev pub invariant-loop-position : goal.invariant-loop-position
invariant-loop-position l = map view l.written.items ≡ map position_data (positions_value (take l.position-index l.positions))
