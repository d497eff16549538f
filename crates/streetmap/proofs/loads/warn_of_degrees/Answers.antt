use Rattle.streetmap.proofs.KeptByReads.{kept_itself}
use Rattle.streetmap.proofs.loads.warn_of_degrees.Goals as goal

pub returns-then-not-is_wanted : goal.returns-then-not-is_wanted
returns-then-not-is_wanted g c = kept_itself _ _

pub returns-then-lies_near_zero : goal.returns-then-lies_near_zero
returns-then-lies_near_zero g c = c.lies_near_zero.ensures

pub returns-else-lies_near_zero : goal.returns-else-lies_near_zero
returns-else-lies_near_zero g c = c.lies_near_zero.ensures
