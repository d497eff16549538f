use Rattle.streetmap_http.proofs.Fronts.{frames_unique}
use Rattle.streetmap_http.proofs.laws.one_framing.Goals as goal

pub returns : goal.returns
returns c = frames_unique
