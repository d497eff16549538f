use Rattle.streetmap_http.proofs.Fronts.{front_unique}
use Rattle.streetmap_http.proofs.laws.one_front.Goals as goal

pub returns : goal.returns
returns c = front_unique
