use Rattle.streetmap_replay.proofs.CallsInTurn.{no_fault_read, reads_then}
use Rattle.streetmap_exchange.proofs.exports.export.Goals as goal

pub returns-clause-reads : goal.returns-clause-reads
returns-clause-reads g c = reads_then (no_fault_read c.in_ok-first.ensures.reads) c.write_pages.ensures.reads
