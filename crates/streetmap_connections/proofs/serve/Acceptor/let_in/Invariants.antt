use Rattle.std.proofs.Common.{◌≡◌, [], map}
use Rattle.streetmap_connections.specs.Served.{all_refusals, slots_of, LetsInUpTo}
use Rattle.streetmap_connections.specs.Slots.{exchanges_in, histories_in}
use Rattle.streetmap_connections.specs.Timeline.{Timeline}
use Rattle.streetmap_connections.proofs.serve.Acceptor.let_in.Given as goal

abbrev pub invariant-loop-attempt : goal.invariant-loop-attempt
invariant-loop-attempt l = record {
  comes : Timeline (histories_in (slots_of l.fn.clients)) [] (histories_in (slots_of l.clients));
  kept : map exchanges_in (slots_of l.clients) ≡ map exchanges_in (slots_of l.fn.clients);
  unrefused : all_refusals l.clients ≡ all_refusals l.fn.clients;
  few : LetsInUpTo l.fn.count l.fn.clients l.clients;
}
