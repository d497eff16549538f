-- Edits packed into batches K.1, K.2, .. : each is the longest next run of them that is within the
-- limits of a batch.
use Rattle.std.specs.Prelude.{◌≡◌, ℕ, ◌+◌, Bool, ◌&&◌, nat_le, List, [], ◌∷◌, ◌++◌, length, decimal}
use Rattle.streetmap_batch.specs.Text.{Text}
use Rattle.streetmap_batch.specs.BatchValue.{EditValue, BatchValue}
use Rattle.streetmap_batch.specs.BatchText.{batch_text}
use Rattle.streetmap_packing.specs.Runs.{AreRuns, AreDone}

-- K.n
abbrev pub numbered_key : Text → ℕ → Text
numbered_key key n = key ++ 46 ∷ decimal n

-- the batch K.n of these edits
abbrev pub numbered : (key : Text) → ℕ → List EditValue → BatchValue
numbered key n es = record { key = numbered_key key n; edits = es }

-- the batches of runs of edits, the first of them of this number
abbrev pub numbered_all : (key : Text) → ℕ → List (List EditValue) → List BatchValue
numbered_all key n [] = []
numbered_all key n (run ∷ runs) = numbered key n run ∷ numbered_all key (n + 1) runs

-- the most bytes that can be posted
abbrev pub most_bytes : ℕ
most_bytes = 8388608

-- no more edits than `each`, and no more bytes of batch text than can be posted
abbrev pub is_within : (each : ℕ) → BatchValue → Bool
is_within each b = nat_le (length b.edits) each && nat_le (length (batch_text b)) most_bytes

-- these edits are within the limits as the batch K.n
abbrev pub passes : (each : ℕ) (key : Text) → ℕ → List EditValue → Bool
passes each key n es = is_within each (numbered key n es)

-- the batches of the edits: they have them all, in their order, and each is the longest at its
-- place
abbrev pub Packs : (each : ℕ) (key : Text) → List EditValue → List BatchValue → Type 0
Packs each key es bs = (runs : List (List EditValue)) × AreRuns (passes each key) 1 es runs ×
    (bs ≡ numbered_all key 1 runs)

-- the batches that are complete whatever follows these edits, and the edits that are left
abbrev pub PacksFirst : (each : ℕ) (key : Text) → List EditValue → List BatchValue →
    List EditValue → Type 0
PacksFirst each key es bs left = (runs : List (List EditValue)) × AreDone (passes each key) 1 es
    runs left × (bs ≡ numbered_all key 1 runs)
