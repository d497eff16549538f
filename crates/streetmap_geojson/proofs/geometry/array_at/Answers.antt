use Rattle.std.proofs.Common.{map}
use Rattle.serde_json.specs.View.{view}
use Rattle.streetmap_geojson.specs.declared.fault.Fault.TheVariants.{BadGeometry}
use Rattle.streetmap_geojson.proofs.Lists.{elements_at}
use Rattle.streetmap_geojson.proofs.geometry.array_at.Goals as goal

pub returns-in-Some : goal.returns-in-Some
returns-in-Some c = elements_at BadGeometry _ (map view c.deref.result.now) (rw c.deref.ensures.value c.in-Some.ensures)
