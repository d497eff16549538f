-- Laws of the batches that a state keeps.
use Rattle.std.specs.Prelude.{◌≡◌, ◌≤◌, ℕ, ◌+◌, Some, length}
use Rattle.std.specs.FinMap.{get}
use Rattle.streetmap_batch.specs.Text.{Text}
use Rattle.streetmap_ledger.specs.State.{State, AcceptedBatch}
use Rattle.streetmap_ledger.specs.WellFormed.{IsState}
use Rattle.streetmap_ledger.specs.Kept.{KeyedBatch, batch_count, batch_in, batches_next}

-- what is kept under a key is found with its serial; and what is found with a serial is kept under
-- its key, and has that serial
abbrev pub KeptBySerial : Type 0
KeptBySerial =
    ((s : State) (key : Text) (k : AcceptedBatch) → IsState s → get s.keys key ≡ Some k →
    batch_in s k.serial ≡ Some (key, k))
    × ((s : State) (n : ℕ) (b : KeyedBatch) → batch_in s n ≡ Some b →
    (get s.keys b.0 ≡ Some b.1) × (b.1.serial ≡ n))

-- each serial from 1 to the number of batches has a batch, so that k batches follow the serial n if
-- n + k is at most that number
abbrev pub NoSerialIsLeftOut : Type 0
NoSerialIsLeftOut =
    (s : State) → IsState s →
    ((n : ℕ) → 1 ≤ n → n ≤ batch_count s → (b : KeyedBatch) × (batch_in s n ≡ Some b))
    × ((n k : ℕ) → n + k ≤ batch_count s → length (batches_next s n k) ≡ k)
