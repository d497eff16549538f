use Rattle.streetmap_checking.proofs.Serials.{AreSeen}
use Rattle.streetmap_checking.proofs.batches.are_serials.Given as goal

abbrev pub invariant-loop-serial : goal.invariant-loop-serial
invariant-loop-serial l = AreSeen l.serials l.seen.items l.serial-index
