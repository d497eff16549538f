use Rattle.std.proofs.Common.{◌≡◌}
use Rattle.std.specs.List.{flat_map}
use Rattle.streetmap_connections.specs.Counts.{CountsOn}
use Rattle.streetmap_connections.specs.Services.{EachMoves, Serves}
use Rattle.streetmap_connections.specs.Slots.{clients_in, ended_in, EndsLate, EndsOnly}
use Rattle.streetmap_connections.proofs.Turned.{Turned}
use Rattle.streetmap_connections.proofs.clients.Round.give_turns.Given as goal

abbrev pub invariant-loop-slot : goal.invariant-loop-slot
invariant-loop-slot g l = record {
  serves : Serves g.V.Service.answers g.V.Service.refuses l.fn.service l.service l.fn.slots l.slots;
  moves : EachMoves g.S.Stream.remaining g.S.Stream.contents (flat_map clients_in l.fn.slots) (flat_map clients_in l.slots);
  same : (l.self.now ≡ l.fn.self.now) × (l.self.limits ≡ l.fn.self.limits);
  late : Turned (EndsLate l.fn.self.now l.fn.self.limits.patience) l.slot-index l.fn.slots l.slots;
  ends : Turned (EndsOnly l.fn.self.now l.fn.self.limits.patience g.S.Stream.is_gone) l.slot-index l.fn.slots l.slots;
  counted : CountsOn l.fn.self.ended l.self.ended (ended_in l.fn.slots) (ended_in l.slots);
}
