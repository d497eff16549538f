-- What a service answered, over one client and over many.
use Rattle.std.specs.Prelude.{◌≡◌, ◌⊎◌, ℕ, List, [], ◌∷◌, ◌++◌, map, flat_map, Option, All}
use Rattle.std.specs.List.{AllZip}
use Rattle.streetmap_connections.specs.declared.client.Client.{Client}
use Rattle.streetmap_connections.specs.declared.limits.TheConstants.{MOST_INPUT}
use Rattle.streetmap_connections.specs.declared.slot.Slot.{Slot}
use Rattle.streetmap_connections.specs.Clients.{exchanges_of, refusals_of, place_of, IsOrderly}
use Rattle.streetmap_connections.specs.History.{Exchange}
use Rattle.streetmap_connections.specs.InTurn.{IsInTurn}
use Rattle.streetmap_connections.specs.Interleaving.{GoesOnAs}
use Rattle.streetmap_connections.specs.Moves.{Moves}
use Rattle.streetmap_connections.specs.Leads.{Answering, Leads, Calls}
use Rattle.streetmap_connections.specs.RefusedRequests.{AddsRefusals, AreRefused, Refusing}
use Rattle.streetmap_connections.specs.Slots.{clients_in, histories_in, refusals_in}
use Rattle.streetmap_connections.specs.Timeline.{Timeline}

-- One list of exchanges leads the service from one state to the other, each answered in the state
-- that the one before left. It is an interleaving of the clients' own lists, in which the clients
-- of each slot were answered in turn, and each client's connection is in order. They were answered
-- in this way along one timeline of all that was read and written. What was refused is what the
-- service refuses.
pub record Serves {V S : Type 0} (answers : Answering V) (refuses : Refusing) (old new : V)
    (before after : List (Slot S)) : Type 0 where
  pub exchanges : List Exchange
  pub leads : Leads answers old exchanges new
  pub interleaved : GoesOnAs (map exchanges_of (flat_map clients_in before)) exchanges
      (map exchanges_of (flat_map clients_in after))
  pub in_turn : IsInTurn before exchanges after
  pub timeline : Timeline (histories_in before) exchanges (histories_in after)
  pub in_order : All IsOrderly (flat_map clients_in after)
  pub refused : AreRefused refuses (flat_map refusals_in before)
      → AreRefused refuses (flat_map refusals_in after)

-- the last of the clients had its turn
pub record LastServed {V S : Type 0} (remaining contents : S
    → Option (List ℕ)) (answers : Answering V) (refuses : Refusing) (old new : V)
    (before after : List (Client S)) : Type 0 where
  pub others : List (Client S)
  pub client : Client S
  pub served : Client S
  pub was : before ≡ others ++ client ∷ []
  pub is : after ≡ others ++ served ∷ []
  pub moves : Moves MOST_INPUT (place_of remaining contents client)
      (place_of remaining contents served)
  pub calls : Calls answers old new (exchanges_of client) (exchanges_of served)
  pub refused : AddsRefusals refuses (refusals_of client) (refusals_of served)

-- the last of the clients had its turn, or nothing was done
abbrev pub TakesTurn : {V S : Type 0} → (S → Option (List ℕ)) → (S → Option (List ℕ)) → Answering V
    → Refusing → V → V → List (Client S) → List (Client S) → Type 0
TakesTurn remaining contents answers refuses old new before after =
    LastServed remaining contents answers refuses old new before after
    ⊎ ((after ≡ before) × (new ≡ old))

-- each client received what its own stream gave, and was sent what was written to it; none was read
-- while as many bytes of its input waited as the longest request has
abbrev pub EachMoves : {S : Type 0} → (S → Option (List ℕ)) → (S → Option (List ℕ))
    → List (Client S) → List (Client S) → Type 0
EachMoves remaining contents before after = AllZip (λ c d.
    Moves MOST_INPUT (place_of remaining contents c) (place_of remaining contents d)) before after
