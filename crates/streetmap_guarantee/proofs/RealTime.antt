-- Histories in real time.
use Rattle.std.proofs.Common.{◌≡◌, List, [], map, subst}
use Rattle.std.specs.List.{flat_map}
use Rattle.streetmap_connections.specs.declared.slot.Slot.{Slot}
use Rattle.streetmap_connections.specs.declared.client.Client.{Client}
use Rattle.streetmap_connections.specs.History.{Exchange, History}
use Rattle.streetmap_connections.specs.Interleaving as interleaving
use Rattle.streetmap_connections.specs.SlotClients.{client_history, clients_in, histories_in}
use Rattle.streetmap_connections.specs.Timeline.{Timeline}
use Rattle.streetmap_connections.proofs.Timelines.{timeline_goes_on}
use Rattle.streetmap_guarantee.specs.Town.{IsInRealTime}

-- each timeline from the start is in real time
pub in_real_time : (answered : List Exchange) (connections : List History)
    → IsInRealTime answered connections
in_real_time answered connections m = timeline_goes_on m.past [] interleaving.none

-- nobody was let in before
pub from_start : {S : Type 0} (before after : List (Slot S)) (es : List Exchange)
    → flat_map clients_in before ≡ [] → Timeline (histories_in before) es (histories_in after)
    → Timeline [] es (histories_in after)
from_start {S} before after es nobody timeline =
    subst (λ (cs : List (Client S)). Timeline (map client_history cs) es (histories_in after))
    nobody timeline
