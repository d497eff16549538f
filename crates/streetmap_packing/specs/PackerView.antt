-- The packer as a plain value, and the effects of its calls.
use Rattle.std.specs.Prelude.{◌≡◌, ◌≢◌, ◌<◌, ◌≤◌, ℕ, true, false, [], length, string_bytes, Option}
use Rattle.std.specs.Prelude.{None, Some, Result, Ok, Err}
use Rattle.std.specs.declared.alloc.AllocError.{AllocError}
use Rattle.streetmap_batch.specs.Text.{Text}
use Rattle.streetmap_batch.specs.BatchValue.{EditValue}
use Rattle.streetmap_batch.specs.BatchView.{batch_value, edit_values}
use Rattle.streetmap_batch.specs.declared.batch.Batch.{Batch}
use Rattle.streetmap_packing.specs.PackingState.{Packing, under_way, is_passing, with_edit, next}
use Rattle.streetmap_packing.specs.declared.packer.Packer.{Packer}

abbrev pub packing : Packer → Packing
packing p = record {
  key = string_bytes p.key;
  each = p.each;
  number = p.number;
  edits = edit_values
      p.edits.items;
}

-- a packer of a key begins with K.1, and no edit
abbrev pub begun : (key : Text) (each : ℕ) → Packing
begun key each = record { key = key; each = each; number = 1; edits = [] }

-- the current batch was returned, and the next begins
abbrev pub GivesOut : Packing → Result Batch AllocError → Packing → Type 0
GivesOut p (Ok b) q = (batch_value b ≡ under_way p) × (q ≡ next p)
GivesOut p (Err memory) q = Unit {0}

-- an edit was added: to the current batch, or, if that has no room for it, to the next, and the one
-- before is returned
abbrev pub Adds : Packing → EditValue → Result (Option Batch) AllocError → Packing → Type 0
Adds p e (Ok None) q = (is_passing (with_edit p e) ≡ true) × (q ≡ with_edit p e)
Adds p e (Ok (Some b)) q =
    (p.edits ≢ []) × (is_passing (with_edit p e) ≡ false) ×
    (is_passing (with_edit (next p) e) ≡ true)
    × (batch_value b ≡ under_way p) × (q ≡ with_edit (next p) e)
Adds p e (Err memory) q = Unit {0}

-- the current batch is returned if it has as many edits as a batch may have
abbrev pub Fills : Packing → Result (Option Batch) AllocError → Packing → Type 0
Fills p (Ok None) q = (length p.edits < p.each) × (q ≡ p)
Fills p (Ok (Some b)) q = (p.each ≤ length p.edits) × (batch_value b ≡ under_way p) × (q ≡ next p)
Fills p (Err memory) q = Unit {0}

-- the last batch, if it has an edit
abbrev pub Finishes : Packing → Result (Option Batch) AllocError → Type 0
Finishes p (Ok None) = p.edits ≡ []
Finishes p (Ok (Some b)) = (p.edits ≢ []) × (batch_value b ≡ under_way p)
Finishes p (Err memory) = Unit {0}
