use Rattle.std.specs.List.{AllWithin}
use Rattle.streetmap_connections.specs.Slots.{AreQuiet}
use Rattle.streetmap_connections.proofs.clients.Clients.is_busy.Given as goal

abbrev pub invariant-loop-slot : goal.invariant-loop-slot
invariant-loop-slot g l = AllWithin AreQuiet l.slots 0 l.slot-index
