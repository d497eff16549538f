use Rattle.streetmap_http.proofs.Arrived.{requests_stay}
use Rattle.streetmap_http.proofs.laws.requests_stay.Goals as goal

pub returns : goal.returns
returns c = requests_stay
