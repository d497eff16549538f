use Rattle.std.proofs.Common.{rules}
use Rattle.streetmap_geojson.specs.ParsedFeatures.{feature_at}
use Rattle.streetmap_geojson.proofs.feature_parser.take_feature.Goals as goal

pub returns-in_err-geometry : goal.returns-in_err-geometry
unfolding feature_at
returns-in_err-geometry c = search rules

pub returns-in_err-properties : goal.returns-in_err-properties
unfolding feature_at
returns-in_err-properties c = search rules
