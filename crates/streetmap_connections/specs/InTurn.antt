-- Clients that have a slot one after the other.
use Rattle.std.specs.Prelude.{◌≡◌, List, [], ◌++◌, length, map, flat_map}
use Rattle.std.specs.List.{AllZip}
use Rattle.streetmap_connections.specs.declared.slot.Slot.{Slot}
use Rattle.streetmap_connections.specs.Clients.{exchanges_of}
use Rattle.streetmap_connections.specs.History.{Exchange}
use Rattle.streetmap_connections.specs.Interleaving.{GoesOnAs}
use Rattle.streetmap_connections.specs.Slots.{clients_in, exchanges_in}

-- the earlier answers of the slot come first
abbrev pub Continues : {S : Type 0} → Slot S → Slot S → Type 0
Continues old new = (more : List Exchange) × (exchanges_in new ≡ exchanges_in old ++ more)

-- The clients of a slot were answered in turn: each to its end before the next was answered at all.
-- In the list of a slot one client's exchanges come after those of the client before it. What was
-- answered is an interleaving of these lists: it continues those before as one of those after.
pub record IsInTurn {S : Type 0} (before : List (Slot S)) (made : List Exchange)
    (after : List (Slot S)) : Type 0 where
  pub each : AllZip Continues before after
  pub interleaved : GoesOnAs (map exchanges_in before) made (map exchanges_in after)
  -- for one slot, if nobody was let in before: the clients' own lists, one after the
  -- other, in the order in which they were let in
  pub alone : length before ≡ 1 → flat_map clients_in before ≡ []
      → made ≡ flat_map exchanges_of (flat_map clients_in after)
