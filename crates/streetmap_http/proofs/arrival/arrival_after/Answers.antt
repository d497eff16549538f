use Rattle.streetmap_http.proofs.Arrived.{arrival_unique}
use Rattle.streetmap_http.proofs.arrival.arrival_after.Goals as goal

pub returns-clause-only : goal.returns-clause-only
returns-clause-only c other held = arrival_unique c.args.bytes.now other c.arrival_by.result held c.arrival_by.ensures
