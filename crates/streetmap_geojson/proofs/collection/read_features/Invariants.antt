use Rattle.std.proofs.Common.{◌≡◌, map, option_map, drop}
use Rattle.serde_json.specs.View.{view}
use Rattle.streetmap_geojson.specs.FeatureView.{feature_value}
use Rattle.streetmap_geojson.specs.Collection.{features_after}
use Rattle.streetmap_geojson.proofs.Collections.{with_front}
use Rattle.streetmap_geojson.proofs.collection.read_features.Given as goal

abbrev pub invariant-loop-i : goal.invariant-loop-i
invariant-loop-i l = with_front (map feature_value l.read.items) (features_after l.i (option_map (λ s. s.now) l.fn.time_property) (map view (drop l.i l.values))) ≡ features_after 0 (option_map (λ s. s.now) l.fn.time_property) (map view l.values)
