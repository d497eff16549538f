use Rattle.serde_json.specs.View.{view}
use Rattle.streetmap_geojson.specs.FeatureView.{feature_value}
use Rattle.streetmap_geojson.proofs.Wholes.{is_found, is_read}
use Rattle.streetmap_geojson.proofs.feature_parser.read_feature.Goals as goal

pub returns-clause-found : goal.returns-clause-found
returns-clause-found c = is_found feature_value c.read_at.result _ (view c.args.value.now) c.read_at.ensures.exact

pub returns-clause-only : goal.returns-clause-only
returns-clause-only c = is_read feature_value c.read_at.result _ (view c.args.value.now) c.read_at.ensures.exact

pub returns-clause-exact : goal.returns-clause-exact
returns-clause-exact c = c.read_at.ensures.exact
