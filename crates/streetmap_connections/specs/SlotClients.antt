-- The clients that had a slot, one after the other.
use Rattle.std.specs.Prelude.{List, [], ◌∷◌, ◌++◌, map, flat_map, Option, Some, None}
use Rattle.streetmap_connections.specs.declared.client.Client.{Client}
use Rattle.streetmap_connections.specs.declared.slot.Slot.{Slot}
use Rattle.streetmap_connections.specs.Buffers.{history_of}
use Rattle.streetmap_connections.specs.History.{History}

module _ {S : Type 0} where
  abbrev pub present : Option (Client S) → List (Client S)
  present (Some c) = c ∷ []
  present None = []

  -- those that the slot had before
  abbrev pub past_of : Slot S → List (Client S)
  past_of s = map (λ e. e.0) s.past.items

  -- and the one that it has, last
  abbrev pub clients_in : Slot S → List (Client S)
  clients_in s = past_of s ++ present s.client

  -- what a client's connection has done
  abbrev pub client_history : Client S → History
  client_history c = history_of c.connection.buffers

  -- and those of all clients
  abbrev pub histories_in : List (Slot S) → List History
  histories_in slots = map client_history (flat_map clients_in slots)

  -- those that ended, over all slots
  abbrev pub ended_in : List (Slot S) → List (Client S)
  ended_in slots = flat_map past_of slots
