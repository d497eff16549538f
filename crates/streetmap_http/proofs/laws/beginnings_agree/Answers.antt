use Rattle.streetmap_http.proofs.Fronts.{beginnings_agree}
use Rattle.streetmap_http.proofs.laws.beginnings_agree.Goals as goal

pub returns : goal.returns
returns c = beginnings_agree
