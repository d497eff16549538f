use Rattle.std.proofs.Common.{option_map}
use Rattle.serde_json.specs.View.{view}
use Rattle.streetmap_grid.specs.Views.{geometry_value}
use Rattle.streetmap_geojson.specs.FeatureMembers.{simple_object}
use Rattle.streetmap_geojson.proofs.Geometries.{few_of, oriented_of}
use Rattle.streetmap_geojson.proofs.geometry_member.read_counted_simple.Goals as goal

pub returns-clause-few : goal.returns-clause-few
returns-clause-few c = few_of (λ o. option_map geometry_value o) c.read_simple_object.result (simple_object c.args.kind (view c.args.coordinates.now)) _ c.read_simple_object.ensures.reads c.read_simple_object.ensures.counted

pub returns-clause-oriented : goal.returns-clause-oriented
returns-clause-oriented c = oriented_of (λ o. option_map geometry_value o) c.read_simple_object.result (simple_object c.args.kind (view c.args.coordinates.now)) _ c.read_simple_object.ensures.reads
