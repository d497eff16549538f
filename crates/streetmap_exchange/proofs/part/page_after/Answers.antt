use Rattle.streetmap_replay.proofs.CallsInTurn.{answered_read}
use Rattle.streetmap_exchange.proofs.part.page_after.Goals as goal

pub returns-in-Ok-Some-clause-reads : goal.returns-in-Ok-Some-clause-reads
returns-in-Ok-Some-clause-reads g c = answered_read c.in-Ok-Some.ensures

pub returns-in-Ok-None-clause-reads : goal.returns-in-Ok-None-clause-reads
returns-in-Ok-None-clause-reads g c = answered_read c.in-Ok-None.ensures
