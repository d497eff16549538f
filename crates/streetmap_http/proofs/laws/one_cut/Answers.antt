use Rattle.streetmap_http.proofs.Fronts.{cut_unique}
use Rattle.streetmap_http.proofs.laws.one_cut.Goals as goal

pub returns : goal.returns
returns c = cut_unique
