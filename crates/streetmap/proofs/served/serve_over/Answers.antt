use Rattle.std.proofs.Common.{map, sym, ap, subst}
use Rattle.streetmap_web.specs.Site.{SiteValue, site_value}
use Rattle.streetmap_connections.specs.AllClients.{clients_of}
use Rattle.streetmap_connections.specs.SlotClients.{client_history}
use Rattle.streetmap_guarantee.specs.Town.{GuaranteeOfTown}
use Rattle.streetmap.proofs.served.serve_over.Goals as goal

pub returns-clause-guarantee : goal.returns-clause-guarantee
returns-clause-guarantee g c clean s represented =
    let made = c.service_of-service.ensures in
    let ended = c.serve-ended in
    subst (λ (site : SiteValue). GuaranteeOfTown g.K.Durable.holds (g.K.Durable.leaves ended.new.service.keeper.keeper) site s
    (map client_history (clients_of ended.new.clients)))
    (ap site_value made.site)
    (ended.ensures.guarantee clean s (subst (λ k. g.K.Keeper.model.represents k s) (sym made.keeper) represented))
