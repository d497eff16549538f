-- The changes after a serial: the batches that were accepted after it.
use Rattle.std.specs.Prelude.{◌≡◌, ◌≤◌, ℕ, ◌+◌, ◌-◌, List, [], ◌∷◌, ◌++◌, length, take, nat_le}
use Rattle.std.specs.Prelude.{if◌then◌else◌}
use Rattle.streetmap_ledger.specs.State.{State}
use Rattle.streetmap_ledger.specs.WellFormed.{IsState}
use Rattle.streetmap_ledger.specs.Kept.{KeyedBatch, batches_after, AreNext}

-- the first, and each further one if the texts of those before it fit into this number of bytes
abbrev pub within : (room : ℕ) → List KeyedBatch → List KeyedBatch
within room [] = []
within room (b ∷ bs) =
    b ∷ (if nat_le (length b.1.text) room then within (room - length b.1.text) bs else [])

-- how many bytes the texts may have before a further one: 8 MiB
abbrev pub most_bytes : ℕ
most_bytes = 8388608

-- the batches after a serial, in order of their serials: at most `limit`
unfoldable pub changes_in : State → (after limit : ℕ) → List KeyedBatch
changes_in s after limit = within most_bytes (take limit (batches_after s after))

-- None is left out. They are the batches with the next serials, at least one if one is kept, and at
-- most `limit`; and those after the last of them are the rest: who goes on after it reads all.
pub record GoOn (s : State) (after limit : ℕ) (found : List KeyedBatch) : Type 0 where
  pub next : AreNext s after most_bytes found
  pub few : length found ≤ limit
  pub rest : batches_after s after ≡ found ++ batches_after s (after + length found)

-- this holds of the changes of each well-formed state
abbrev pub ChangesGoOn : Type 0
ChangesGoOn = (s : State) (after limit : ℕ) → IsState s → 1 ≤ limit
    → GoOn s after limit (changes_in s after limit)
