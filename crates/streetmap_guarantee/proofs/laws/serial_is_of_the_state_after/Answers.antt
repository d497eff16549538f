use Rattle.streetmap_guarantee.proofs.Serials.{serial_is_of_the_state_after}
use Rattle.streetmap_guarantee.proofs.laws.serial_is_of_the_state_after.Goals as goal

pub returns : goal.returns
returns c = serial_is_of_the_state_after
