use Rattle.streetmap_http.proofs.Arrived.{bodies_fill}
use Rattle.streetmap_http.proofs.laws.bodies_fill.Goals as goal

pub returns : goal.returns
returns c = bodies_fill
