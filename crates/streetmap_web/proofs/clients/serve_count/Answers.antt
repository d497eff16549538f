use Rattle.std.proofs.Common.{◌≡◌, length, ap, ◌∙◌, rules, arith}
use Rattle.streetmap_connections.specs.declared.limits.Limits.{Limits}
use Rattle.streetmap_connections.specs.Served.{slots_of}
use Rattle.streetmap_web.proofs.CallsInARow.{no_calls}
use Rattle.streetmap_web.proofs.RequestsInTurn.{none_in_row}
use Rattle.streetmap_web.proofs.clients.serve_count.Goals as goal

pub returns-in_err-clients-clause-serves : goal.returns-in_err-clients-clause-serves
returns-in_err-clients-clause-serves g c clean x in_condition = none_in_row g.K.Keeper.model c.args.service.now clean x in_condition c.args.count _ (λ done. search rules)

pub returns-in_err-clients-clause-calls : goal.returns-in_err-clients-clause-calls
returns-in_err-clients-clause-calls g c = no_calls g.K.Keeper.model c.args.service.now.keeper

pub returns-clause-serves : goal.returns-clause-serves
returns-clause-serves g c clean x in_condition =
    let clients = c.in_ok-clients.clients in
    let said = c.serve_clients.ensures.serves clean x in_condition in
    let room : clients.slots.len ≡ 1 = c.in_ok-clients.ensures.room.0 ∙ ap (λ (l : Limits). l.clients) c.in_turn.ensures in
    let one : length (slots_of clients) ≡ 1 = omega (arith, room, clients.slots.ok.0) in
    record {
      before = slots_of clients;
      after = slots_of c.serve_clients.new.clients;
      nobody = c.in_ok-clients.ensures.none;
      serves = said;
      in_row = said.in_turn.alone one c.in_ok-clients.ensures.none;
      counted = c.serve_clients.ensures.counted;
    }
