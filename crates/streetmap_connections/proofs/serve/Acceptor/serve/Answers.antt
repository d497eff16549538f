use Rattle.streetmap_connections.specs.SlotClients.{client_history}
use Rattle.streetmap_connections.specs.Served.{slots_of, clients_of}
use Rattle.streetmap_connections.proofs.Counting.{as_few_by}
use Rattle.streetmap_connections.proofs.ServingLemmas.{serves_none, serves_same, serves_then}
use Rattle.streetmap_connections.proofs.serve.Acceptor.serve.Goals as goal

pub returns-in_err-start-clause-serves : goal.returns-in_err-start-clause-serves
returns-in_err-start-clause-serves g c = serves_none g.V.Service.answers g.V.Service.refuses _ _

pub loop-round-init : goal.loop-round-init
loop-round-init g c = record {
  serves = serves_none g.V.Service.answers g.V.Service.refuses _ _;
  few = λ before. before;
}

pub returns-in_err-wait-clause-serves : goal.returns-in_err-wait-clause-serves
returns-in_err-wait-clause-serves g c =
    serves_then g.V.Service.answers g.V.Service.refuses _ _ _ _ _ _ c.loop-round.invariant.serves
    (serves_same g.V.Service.answers g.V.Service.refuses c.loop-round.service (slots_of c.loop-round.clients) (slots_of c.wait.new.clients) c.wait.ensures.same c.wait.ensures.kept c.wait.ensures.unrefused)

pub returns-in_err-elapsed-clause-serves : goal.returns-in_err-elapsed-clause-serves
returns-in_err-elapsed-clause-serves g c =
    serves_then g.V.Service.answers g.V.Service.refuses _ _ _ _ _ _ c.loop-round.invariant.serves
    (serves_same g.V.Service.answers g.V.Service.refuses c.loop-round.service (slots_of c.loop-round.clients) (slots_of c.wait.new.clients) c.wait.ensures.same c.wait.ensures.kept c.wait.ensures.unrefused)

pub returns-in_err-goes-clause-serves : goal.returns-in_err-goes-clause-serves
returns-in_err-goes-clause-serves g c =
    serves_then g.V.Service.answers g.V.Service.refuses _ _ _ _ _ _ c.loop-round.invariant.serves
    (serves_then g.V.Service.answers g.V.Service.refuses _ _ _ _ _ _ (serves_same g.V.Service.answers g.V.Service.refuses c.loop-round.service (slots_of c.loop-round.clients) (slots_of c.wait.new.clients) c.wait.ensures.same c.wait.ensures.kept c.wait.ensures.unrefused) c.round.ensures.serves)

pub loop-round-preserved : goal.loop-round-preserved
loop-round-preserved g c = record {
  serves =
      serves_then g.V.Service.answers g.V.Service.refuses _ _ _ _ _ _ c.loop-round.invariant.serves
      (serves_then g.V.Service.answers g.V.Service.refuses _ _ _ _ _ _ (serves_same g.V.Service.answers g.V.Service.refuses c.loop-round.service (slots_of c.loop-round.clients) (slots_of c.wait.new.clients) c.wait.ensures.same c.wait.ensures.kept c.wait.ensures.unrefused) c.round.ensures.serves);
  few = λ before. c.round.ensures.few
      (as_few_by client_history (clients_of c.wait.new.clients) (clients_of c.loop-round.clients)
      c.args.count c.wait.ensures.same (c.loop-round.invariant.few before));
}

pub returns-then-is_drained-clause-serves : goal.returns-then-is_drained-clause-serves
returns-then-is_drained-clause-serves g c =
    serves_then g.V.Service.answers g.V.Service.refuses _ _ _ _ _ _ c.loop-round.invariant.serves
    (serves_same g.V.Service.answers g.V.Service.refuses c.loop-round.service
    (slots_of c.loop-round.clients) (slots_of c.wait.new.clients) c.wait.ensures.same
    c.wait.ensures.kept c.wait.ensures.unrefused)
