use Rattle.streetmap_connections.specs.Served.{slots_of}
use Rattle.streetmap_connections.proofs.ServingLemmas.{serves_by, serves_then}
use Rattle.streetmap_connections.proofs.serve.Acceptor.round.Goals as goal

pub returns-clause-serves : goal.returns-clause-serves
returns-clause-serves g c =
    serves_then g.V.Service.answers g.V.Service.refuses _ _ _ _ _ _
    (serves_by g.V.Service.answers g.V.Service.refuses c.args.service.now (slots_of c.args.clients.now) (slots_of c.let_in.new.clients) c.let_in.ensures.comes c.let_in.ensures.kept c.let_in.ensures.unrefused)
    c.work.ensures.serves

pub returns-in_err-let_in-clause-serves : goal.returns-in_err-let_in-clause-serves
returns-in_err-let_in-clause-serves g c =
    serves_by g.V.Service.answers g.V.Service.refuses c.args.service.now (slots_of c.args.clients.now) (slots_of c.let_in.new.clients) c.let_in.ensures.comes c.let_in.ensures.kept c.let_in.ensures.unrefused
