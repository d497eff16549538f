use Rattle.std.proofs.Common.{◌≡◌, map, take}
use Rattle.serde_json.specs.View.{view}
use Rattle.streetmap_grid.specs.Views.{simples_value}
use Rattle.streetmap_feature_text.specs.Written.{simple_data}
use Rattle.streetmap_feature_text.proofs.feature_values.write_simples.Given as goal

abbrev pub invariant-loop-geometry : goal.invariant-loop-geometry
invariant-loop-geometry l = map view l.written.items ≡ map simple_data (simples_value (take l.geometry-index l.geometries))
