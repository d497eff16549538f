-- What a contract sees of a client.
use Rattle.std.specs.Prelude.{◌≡◌, ◌⊎◌, ◌-◌, ◌<◌, ◌||◌, ℕ, Bool, false, true, List, [], Option}
use Rattle.std.specs.Prelude.{if◌then◌else◌}
use Rattle.streetmap_connections.specs.declared.client.Client.{Client}
use Rattle.streetmap_connections.specs.declared.client.TheConstants.{LAST_PATIENCE}
use Rattle.streetmap_connections.specs.declared.limits.TheConstants.{LONGEST_REQUEST}
use Rattle.streetmap_connections.specs.Connections.{history, IsOver}
use Rattle.streetmap_connections.specs.History.{Exchange, FitsStream, Refusal}
use Rattle.streetmap_connections.specs.Moves.{Place}

module _ {S : Type 0} where
  abbrev pub place_of : (S → Option (List ℕ)) → (S → Option (List ℕ)) → Client S → Place
  place_of remaining contents c = record {
    history = history c.connection;
    left = remaining c.stream;
    held = contents c.stream;
    finishes = c.finishes;
  }

  abbrev pub exchanges_of : Client S → List Exchange
  exchanges_of c = (history c.connection).exchanges

  abbrev pub refusals_of : Client S → List Refusal
  refusals_of c = (history c.connection).refusals

  -- what the client sent is answered in order, and what was answered is what it is sent
  abbrev pub IsOrderly : Client S → Type 0
  IsOrderly c = ∥ FitsStream (history c.connection) ∥₁

  -- no received byte waits for an answer, and no answer waits to be sent
  abbrev pub IsAtRest : Client S → Type 0
  IsAtRest c = ((history c.connection).unread ≡ []) × ((history c.connection).unsent ≡ [])

  -- the client is at rest, and its stream had nothing more to read
  abbrev pub IsIdle : Client S → Type 0
  IsIdle c = (c.readable ≡ false) × (c.finishes ≡ false) × IsAtRest c

  -- its stream became ready
  abbrev pub woken : Bool → Bool → Client S → Client S
  woken readable writable c = record c {
    readable = c.readable || readable;
    writable = c.writable
        || writable;
  }

  -- the client took longer than the patience, or than the last one if everything was sent; or its
  -- request takes longer than any may
  abbrev pub IsLate : ℕ → ℕ → Client S → Type 0
  IsLate now patience c = ((if c.finishes then LAST_PATIENCE else patience) < now - c.since)
      ⊎ (LONGEST_REQUEST < now - c.request_since)

  -- its stream is gone, or everything was sent, nothing more can be answered, and the end of what
  -- it sends was read
  abbrev pub HasLeft : (S → Type 0) → Client S → Type 0
  HasLeft is_gone c = is_gone c.stream
      ⊎ (IsOver c.connection × ((history c.connection).ended ≡ true))

  -- nothing of an answer is left to send, and the end of what the client sends is not awaited
  abbrev pub IsQuiet : Client S → Type 0
  IsQuiet c = (c.finishes ≡ false) × ((history c.connection).unsent ≡ [])
