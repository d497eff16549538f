use Rattle.std.specs.List.{AllWithin}
use Rattle.streetmap_connections.specs.Slots.{IsTaken}
use Rattle.streetmap_connections.proofs.clients.Clients.first_free.Given as goal

abbrev pub invariant-loop-place : goal.invariant-loop-place
invariant-loop-place g l = AllWithin IsTaken l.slots 0 l.place
