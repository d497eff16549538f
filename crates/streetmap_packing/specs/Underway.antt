-- Edits that were packed so far: the runs that are complete, and the current batch.
use Rattle.std.specs.Prelude.{◌≡◌, ◌≢◌, ℕ, ◌+◌, true, List, [], ◌∷◌, length}
use Rattle.streetmap_batch.specs.Text.{Text}
use Rattle.streetmap_batch.specs.BatchValue.{EditValue}
use Rattle.streetmap_packing.specs.Runs.{AreDone}
use Rattle.streetmap_packing.specs.Packs.{passes}
use Rattle.streetmap_packing.specs.PackingState.{Packing}

-- the state after these runs
abbrev pub packing_at : (each : ℕ) (key : Text) → List (List EditValue) → List EditValue → Packing
packing_at each key sent left = record
    { key = key; each = each; number = 1 + length sent; edits = left }

-- these runs are complete, and the edits that are left are within the limits of a batch
pub record Underway (each : ℕ) (key : Text) (es : List EditValue) (sent : List (List EditValue))
    (left : List EditValue) : Type 0 where
  pub done : AreDone (passes each key) 1 es sent left
  pub passing : left ≢ [] → passes each key (1 + length sent) left ≡ true

-- the number of edits in runs
abbrev pub edits_in : List (List EditValue) → ℕ
edits_in [] = 0
edits_in (run ∷ runs) = length run + edits_in runs
