use Rattle.streetmap_replay.proofs.CallsInTurn.{failed_read, lost_read}
use Rattle.streetmap_journal.proofs.completion.refuse.Goals as goal

pub returns-in-Ok : goal.returns-in-Ok
returns-in-Ok g c = lost_read c.in-Ok.ensures

pub returns-in-Err : goal.returns-in-Err
returns-in-Err g c = failed_read c.in-Err.ensures
