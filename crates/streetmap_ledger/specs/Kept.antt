-- The batches that a state keeps, by their serials.
use Rattle.std.specs.Prelude.{◌≡◌, ◌≤◌, ℕ, zero, suc, ◌+◌, ◌-◌, Bool, List, [], ◌∷◌, ◌++◌}
use Rattle.std.specs.Prelude.{length, take, Option, find, nat_eq}
use Rattle.std.specs.Option.{option_to_list}
use Rattle.std.specs.FinMap.{entries, len}
use Rattle.streetmap_batch.specs.Text.{Text}
use Rattle.streetmap_ledger.specs.State.{State, AcceptedBatch}

-- a key, and what is kept for it
abbrev pub KeyedBatch : Type 0
KeyedBatch = Text × AcceptedBatch

-- it was accepted with this serial
abbrev pub has_serial : ℕ → KeyedBatch → Bool
has_serial n b = nat_eq b.1.serial n

-- how many batches are kept
abbrev pub batch_count : State → ℕ
batch_count s = len s.keys

-- the batch that is kept with this serial
abbrev pub batch_in : State → ℕ → Option KeyedBatch
batch_in s n = find (has_serial n) (entries s.keys)

-- the batches with the next serials after one, this number of them, in order
abbrev pub batches_next : State → ℕ → ℕ → List KeyedBatch
batches_next s n zero = []
batches_next s n (suc k) = batches_next s n k ++ option_to_list (batch_in s (n + suc k))

-- all batches after a serial, in order of their serials
abbrev pub batches_after : State → ℕ → List KeyedBatch
batches_after s n = batches_next s n (batch_count s - n)

-- how many bytes their texts have
abbrev pub text_bytes : List KeyedBatch → ℕ
text_bytes [] = 0
text_bytes (b ∷ bs) = length b.1.text + text_bytes bs

-- they are the batches with the next serials after one: at least one, if one is kept; and without
-- the last of them their texts fit into `room` bytes
pub record AreNext (s : State) (after room : ℕ) (found : List KeyedBatch) : Type 0 where
  pub are : found ≡ batches_next s after (length found)
  pub some : found ≡ [] → batch_count s ≤ after
  pub few : text_bytes (take (length found - 1) found) ≤ room
