use Rattle.std.proofs.Common.{map}
use Rattle.streetmap_web.specs.Site.{site_value}
use Rattle.streetmap_connections.specs.AllClients.{clients_of}
use Rattle.streetmap_connections.specs.Served.{slots_of}
use Rattle.streetmap_connections.specs.SlotClients.{client_history}
use Rattle.streetmap_web.specs.Conditions.{of_state}
use Rattle.streetmap_guarantee.proofs.Clients.{all_in_order, all_interleaved, all_refused}
use Rattle.streetmap_guarantee.proofs.Guarantees.{is_guaranteed_in_time}
use Rattle.streetmap_guarantee.proofs.RealTime.{from_start}
use Rattle.streetmap_guarantee.proofs.town.serve_town.Goals as goal

pub returns-clause-guarantee : goal.returns-clause-guarantee
returns-clause-guarantee g c clean s represented =
    let says = c.serve_clients.ensures in
    let old = c.args.service.now.keeper in
    let new = c.serve_clients.new.service.keeper in
    let before = clients_of c.args.clients.now in
    let after = clients_of c.serve_clients.new.clients in
    let it = says.serves clean (of_state s) represented in
    is_guaranteed_in_time g.K.Keeper.model g.K.Durable.holds (g.K.Durable.leaves new) (site_value c.args.service.now.site) s old new represented
    (λ image left. g.met.K.Durable.images_hold_states old new s image represented says.calls.preserved clean left)
    (map client_history after) it.exchanges it.requests (all_in_order after it.in_order)
    (all_refused (slots_of c.args.clients.now) (slots_of c.serve_clients.new.clients) c.requires it.refused) (all_interleaved before after it.exchanges c.requires it.interleaved) it.answered it.comes
    (from_start (slots_of c.args.clients.now) (slots_of c.serve_clients.new.clients) it.exchanges c.requires it.timeline)
