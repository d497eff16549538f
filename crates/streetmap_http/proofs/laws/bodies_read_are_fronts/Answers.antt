use Rattle.streetmap_http.proofs.Readings.{bodies_read_are_fronts}
use Rattle.streetmap_http.proofs.laws.bodies_read_are_fronts.Goals as goal

pub returns : goal.returns
returns c = bodies_read_are_fronts
