use Rattle.streetmap_http.proofs.Arrived.{scans_go_on}
use Rattle.streetmap_http.proofs.laws.scans_go_on.Goals as goal

pub returns : goal.returns
returns c = scans_go_on
