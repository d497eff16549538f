-- The clients of a server.
use Rattle.std.specs.Prelude.{List, flat_map}
use Rattle.streetmap_connections.specs.declared.clients.Clients.{Clients}
use Rattle.streetmap_connections.specs.declared.slot.Slot.{Slot}
pub use Rattle.streetmap_connections.specs.AllClients.{clients_of, ended_of, LetsInUpTo}
use Rattle.streetmap_connections.specs.History.{Refusal}
use Rattle.streetmap_connections.specs.Slots.{refusals_in}

module _ {S : Type 0} where
  -- its slots, each a place for one client at a time
  abbrev pub slots_of : Clients S → List (Slot S)
  slots_of cs = cs.slots.items

  -- what was refused of them
  abbrev pub all_refusals : Clients S → List Refusal
  all_refusals cs = flat_map refusals_in cs.slots.items
