use Rattle.streetmap_connections.specs.Services.{Serves}
use Rattle.streetmap_connections.specs.Served.{slots_of, LetsInUpTo}
use Rattle.streetmap_connections.proofs.serve.Acceptor.serve.Given as goal

abbrev pub invariant-loop-round : goal.invariant-loop-round
invariant-loop-round g l = record {
  serves : Serves g.V.Service.answers g.V.Service.refuses l.fn.service l.service
      (slots_of l.fn.clients) (slots_of l.clients);
  few : LetsInUpTo l.fn.count l.fn.clients l.clients;
}
