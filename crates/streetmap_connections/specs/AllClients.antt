-- All clients that were let in.
use Rattle.std.specs.Prelude.{◌≤◌, ℕ, List, flat_map, length}
use Rattle.streetmap_connections.specs.declared.client.Client.{Client}
use Rattle.streetmap_connections.specs.declared.clients.Clients.{Clients}
use Rattle.streetmap_connections.specs.SlotClients.{clients_in, ended_in}

module _ {S : Type 0} where
  -- all that ever were let in
  abbrev pub clients_of : Clients S → List (Client S)
  clients_of cs = flat_map clients_in cs.slots.items

  -- those of them that ended
  abbrev pub ended_of : Clients S → List (Client S)
  ended_of cs = ended_in cs.slots.items

  -- no more than this number of clients were let in, if no more had been before
  abbrev pub LetsInUpTo : ℕ → (old new : Clients S) → Type 0
  LetsInUpTo count old new = length (clients_of old) ≤ count → length (clients_of new) ≤ count
