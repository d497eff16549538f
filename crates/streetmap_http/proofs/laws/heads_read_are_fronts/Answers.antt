use Rattle.streetmap_http.proofs.Readings.{heads_read_are_fronts}
use Rattle.streetmap_http.proofs.laws.heads_read_are_fronts.Goals as goal

pub returns : goal.returns
returns c = heads_read_are_fronts
