use Rattle.std.proofs.Common.{rules}
use Rattle.streetmap_ledger.proofs.Calls.{read_made, read_then, read_failed}
use Rattle.streetmap_replay.proofs.serial.is_next.Goals as goal

pub returns-then-serial-count : goal.returns-then-serial-count
returns-then-serial-count g c = read_made c.in-Ok.ensures (λ s e is. search rules)

pub returns-else-serial-gt0 : goal.returns-else-serial-gt0
returns-else-serial-gt0 g c = read_then c.in-Ok.ensures c.is_there.ensures (λ s there e counted is. search rules)

pub returns-in-Err : goal.returns-in-Err
returns-in-Err g c = read_failed c.in-Err.ensures
