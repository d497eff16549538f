use Rattle.streetmap_ledger.proofs.Serials.{found_of, found_under}
use Rattle.streetmap_ledger.proofs.serial_laws.kept_by_serial.Goals as goal

pub returns : goal.returns
returns c = (found_of, found_under)
