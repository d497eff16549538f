use Rattle.streetmap_connections.proofs.ServingLemmas.{serves_none}
use Rattle.streetmap_connections.proofs.serve.serve_connections.Goals as goal

pub returns-in_err-events-clause-serves : goal.returns-in_err-events-clause-serves
returns-in_err-events-clause-serves g c = serves_none g.V.Service.answers g.V.Service.refuses _ _

pub returns-in_err-acceptor-clause-serves : goal.returns-in_err-acceptor-clause-serves
returns-in_err-acceptor-clause-serves g c = serves_none g.V.Service.answers g.V.Service.refuses _ _
