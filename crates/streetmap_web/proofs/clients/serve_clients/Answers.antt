use Rattle.streetmap_connections.specs.Served.{slots_of}
use Rattle.streetmap_web.proofs.RequestsInTurn.{site_kept, all_calls, serves_clients}
use Rattle.streetmap_web.proofs.clients.serve_clients.Goals as goal

pub returns-clause-serves : goal.returns-clause-serves
returns-clause-serves g c clean x in_condition =
    serves_clients g.K.Keeper.model c.args.service.now c.serve_connections.new.service (slots_of c.args.clients.now) (slots_of c.serve_connections.new.clients)
    c.serve_connections.ensures.serves clean x in_condition

pub returns-clause-calls : goal.returns-clause-calls
returns-clause-calls g c =
    let said = c.serve_connections in
    all_calls g.K.Keeper.model c.args.service.now said.new.service said.ensures.serves.exchanges said.ensures.serves.leads

pub returns-clause-site : goal.returns-clause-site
returns-clause-site g c =
    let said = c.serve_connections in
    site_kept g.K.Keeper.model c.args.service.now said.new.service said.ensures.serves.exchanges said.ensures.serves.leads
