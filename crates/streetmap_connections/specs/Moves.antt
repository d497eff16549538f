-- What a client read and was sent between two points.
use Rattle.std.specs.Prelude.{◌≡◌, ℕ, ◌<◌, Bool, false, List, ◌++◌, Option, All}
use Rattle.std.specs.Io.KnownBytes.{Appends, Consumes}
use Rattle.streetmap_connections.specs.History.{Exchange, History}
use Rattle.streetmap_connections.specs.Timeline.{Steps}

-- a client's connection, the bytes that its stream has left, and those that were written to it
pub record Place : Type 0 where
  pub history : History
  pub left : Option (List ℕ)
  pub held : Option (List ℕ)
  -- what is still read is dropped
  pub finishes : Bool

-- What was received is what the stream gave, and what was sent is what was written to it. At each
-- read less than `most` bytes waited for an answer. All of it was in steps, one after the other.
pub record Moves (most : ℕ) (old new : Place) : Type 0 where
  pub more : List ℕ
  pub received : new.history.received ≡ old.history.received ++ more
  pub consumed : new.finishes ≡ false → (old.finishes ≡ false) × Consumes old.left new.left more
  pub reads : List ℕ
  pub waited : new.history.waited ≡ old.history.waited ++ reads
  pub within : All (λ n. n < most) reads
  pub gone : List ℕ
  pub sent : new.history.sent ≡ old.history.sent ++ gone
  pub appended : Appends old.held new.held gone
  pub answered : List Exchange
  pub steps : Steps old.history answered new.history
