use Rattle.streetmap_ledger.proofs.AllThere.{no_serial_is_left_out}
use Rattle.streetmap_ledger.proofs.serial_laws.no_serial_is_left_out.Goals as goal

pub returns : goal.returns
returns c = no_serial_is_left_out
