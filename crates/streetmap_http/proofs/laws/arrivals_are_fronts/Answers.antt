use Rattle.streetmap_http.proofs.Readings.{arrivals_are_fronts}
use Rattle.streetmap_http.proofs.laws.arrivals_are_fronts.Goals as goal

pub returns : goal.returns
returns c = arrivals_are_fronts
