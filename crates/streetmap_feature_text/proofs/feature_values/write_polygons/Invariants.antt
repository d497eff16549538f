use Rattle.std.proofs.Common.{◌≡◌, map, take}
use Rattle.serde_json.specs.View.{view}
use Rattle.streetmap_grid.specs.Views.{polygons_value}
use Rattle.streetmap_feature_text.specs.Written.{polygon_data}
use Rattle.streetmap_feature_text.proofs.feature_values.write_polygons.Given as goal

abbrev pub invariant-loop-polygon : goal.invariant-loop-polygon
invariant-loop-polygon l = map view l.written.items ≡ map polygon_data (polygons_value (take l.polygon-index l.polygons))
