use Rattle.std.proofs.Common.{codes}
use Rattle.serde_json.specs.View.{view}
use Rattle.streetmap_geojson.proofs.Wholes.{flat_of}
use Rattle.streetmap_geojson.proofs.feature_parser.take_flat_properties.Goals as goal

pub returns-clause-flat : goal.returns-clause-flat
returns-clause-flat c = flat_of view c.take_properties.result (codes "properties") (view c.args.value.now) c.take_properties.ensures.reads c.requires
