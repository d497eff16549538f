use Rattle.std.proofs.Common.{◌≡◌, [], length}
use Rattle.std.specs.List.{flat_map}
use Rattle.streetmap_connections.specs.Slots.{clients_in, ended_in}
use Rattle.streetmap_connections.proofs.clients.Clients.new.Given as goal

abbrev pub invariant-loop-place : goal.invariant-loop-place
invariant-loop-place g l = record {
  none : flat_map clients_in l.slots.items ≡ [];
  none_ended : ended_in l.slots.items ≡ [];
  room : length l.slots.items ≡ l._place;
}
