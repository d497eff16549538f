use Rattle.std.proofs.Common.{option_map}
use Rattle.serde_json.specs.View.{view}
use Rattle.streetmap_grid.specs.Views.{geometry_value}
use Rattle.streetmap_geojson.proofs.Geometries.{few_of, oriented_of}
use Rattle.streetmap_geojson.proofs.feature_parser.read_counted.Goals as goal

pub returns-clause-few : goal.returns-clause-few
returns-clause-few c = few_of (λ o. option_map geometry_value o) c.read_geometry.result (view c.args.member.now) _ c.read_geometry.ensures.reads c.read_geometry.ensures.counted

pub returns-clause-oriented : goal.returns-clause-oriented
returns-clause-oriented c = oriented_of (λ o. option_map geometry_value o) c.read_geometry.result (view c.args.member.now) _ c.read_geometry.ensures.reads
