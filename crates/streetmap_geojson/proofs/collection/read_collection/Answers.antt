use Rattle.std.proofs.Common.{map}
use Rattle.serde_json.specs.View.{view}
use Rattle.streetmap_geojson.specs.FeatureView.{feature_value}
use Rattle.streetmap_geojson.proofs.Collections.{are_found, are_read}
use Rattle.streetmap_geojson.proofs.collection.read_collection.Goals as goal

pub returns-clause-found : goal.returns-clause-found
returns-clause-found c = are_found (λ v. map feature_value v.items) c.read_whole.result _ (view c.args.value.now) c.read_whole.ensures

pub returns-clause-only : goal.returns-clause-only
returns-clause-only c = are_read (λ v. map feature_value v.items) c.read_whole.result _ (view c.args.value.now) c.read_whole.ensures
