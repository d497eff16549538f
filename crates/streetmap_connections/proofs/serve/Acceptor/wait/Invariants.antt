use Rattle.std.proofs.Common.{◌≡◌, map}
use Rattle.streetmap_connections.specs.Served.{all_refusals, slots_of}
use Rattle.streetmap_connections.specs.Slots.{exchanges_in, histories_in}
use Rattle.streetmap_connections.proofs.serve.Acceptor.wait.Given as goal

abbrev pub invariant-loop-event : goal.invariant-loop-event
invariant-loop-event l = record {
  same : histories_in (slots_of l.clients) ≡ histories_in (slots_of l.fn.clients);
  kept : map exchanges_in (slots_of l.clients) ≡ map exchanges_in (slots_of l.fn.clients);
  unrefused : all_refusals l.clients ≡ all_refusals l.fn.clients;
}
