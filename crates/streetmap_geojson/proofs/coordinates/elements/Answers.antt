use Rattle.std.proofs.Common.{map}
use Rattle.serde_json.specs.View.{view}
use Rattle.serde_json.specs.Find.{as_array}
use Rattle.streetmap_geojson.proofs.Lists.{elements_at}
use Rattle.streetmap_geojson.proofs.coordinates.elements.Goals as goal

pub returns-in-Some : goal.returns-in-Some
returns-in-Some c = elements_at c.args.fault (as_array (view c.args.value.now)) (map view c.deref.result.now) (rw c.deref.ensures.value c.in-Some.ensures)
