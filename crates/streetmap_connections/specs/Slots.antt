-- The clients of slots, those that ended first.
use Rattle.std.specs.Prelude.{◌≡◌, ◌⊎◌, ◌≤◌, ◌-◌, ℕ, Bool, List, [], ◌∷◌, ◌++◌, flat_map}
use Rattle.std.specs.Prelude.{Some, None, option_map, IsSome, All, slice_get}
use Rattle.streetmap_connections.specs.declared.client.Client.{Client}
use Rattle.streetmap_connections.specs.declared.slot.Slot.{Slot}
pub use Rattle.streetmap_connections.specs.SlotClients.{present, past_of, clients_in, ended_in}
pub use Rattle.streetmap_connections.specs.SlotClients.{client_history, histories_in}
use Rattle.streetmap_connections.specs.Clients.{exchanges_of, refusals_of}
use Rattle.streetmap_connections.specs.Clients.{HasLeft, IsAtRest, IsIdle}
use Rattle.streetmap_connections.specs.Clients.{IsLate, IsQuiet, woken}
use Rattle.streetmap_connections.specs.History.{Exchange, Refusal}

module _ {S : Type 0} where
  -- what they all were answered, one client after the other
  abbrev pub exchanges_in : Slot S → List Exchange
  exchanges_in s = flat_map exchanges_of (clients_in s)

  -- what was refused of them
  abbrev pub refusals_in : Slot S → List Refusal
  refusals_in s = flat_map refusals_of (clients_in s)

  -- the slot is free, or its client is at rest
  abbrev pub GivesWay : Slot S → Type 0
  GivesWay s = All IsAtRest (present s.client)

  abbrev pub GivesWayAt : List (Slot S) → ℕ → Type 0
  GivesWayAt slots place = (s : Slot S) × (slice_get slots place ≡ Some s) × GivesWay s

  -- the slot is free
  abbrev pub IsFreeAt : List (Slot S) → ℕ → Type 0
  IsFreeAt slots place = (s : Slot S) × (slice_get slots place ≡ Some s) × (s.client ≡ None)

  -- the slot has a client
  abbrev pub IsTaken : Slot S → Type 0
  IsTaken s = IsSome s.client

  -- the client of the slot has been idle for this many milliseconds
  abbrev pub IdlesFor : ℕ → Slot S → ℕ → Type 0
  IdlesFor now s n = (c : Client S) × (s.client ≡ Some c) × IsIdle c × (n ≡ now - c.since)

  -- no client of these slots has been idle for longer
  abbrev pub NoneIdlesBeyond : ℕ → ℕ → List (Slot S) → Type 0
  NoneIdlesBeyond now n slots = All (λ s. (m : ℕ) → IdlesFor now s m → m ≤ n) slots

  -- the client at this place is idle, and none has been idle for longer
  abbrev pub IsLongestIdleAt : ℕ → List (Slot S) → ℕ → Type 0
  IsLongestIdleAt now slots place = (s : Slot S) × (slice_get slots place ≡ Some s) × (n : ℕ)
      × IdlesFor now s n × NoneIdlesBeyond now n slots

  -- the client at this place came at this time
  abbrev pub CameAt : ℕ → List (Slot S) → ℕ → Type 0
  CameAt now slots place = (s : Slot S) × (slice_get slots place ≡ Some s) × (c : Client S)
      × (s.client ≡ Some c) × (c.since ≡ now)

  -- the stream of its client became ready
  abbrev pub woken_in : Bool → Bool → Slot S → Slot S
  woken_in readable writable s = record s { client = option_map (woken readable writable) s.client }

  -- a late client of the slot has ended as it was, as the last one of the slot, and the slot is
  -- free
  abbrev pub EndsLate : ℕ → ℕ → Slot S → Slot S → Type 0
  EndsLate now patience old new = All (λ c. IsLate now patience c → (new.client ≡ None)
      × (past_of new ≡ past_of old ++ c ∷ [])) (present old.client)

  -- if the slot is free, it had no client, or the client was late, or it has ended as one that left
  abbrev pub EndsOnly : ℕ → ℕ → (S → Type 0) → Slot S → Slot S → Type 0
  EndsOnly now patience is_gone old new = new.client ≡ None
      → All (λ c. IsLate now patience c) (present old.client)
      ⊎ ((c : Client S) × (past_of new ≡ past_of old ++ c ∷ []) × HasLeft is_gone c)

-- its client, if it has one, is quiet
abbrev pub AreQuiet : {S : Type 0} → Slot S → Type 0
AreQuiet slot = All IsQuiet (present slot.client)
