-- The state while edits are packed.
use Rattle.std.specs.Prelude.{ℕ, ◌+◌, Bool, List, [], ◌∷◌, ◌++◌}
use Rattle.streetmap_batch.specs.Text.{Text}
use Rattle.streetmap_batch.specs.BatchValue.{EditValue, BatchValue}
use Rattle.streetmap_packing.specs.Packs.{numbered, passes}

-- the key, the most edits of a batch, and the number and the edits of the current batch
pub record Packing : Type 0 where
  pub key : Text
  pub each : ℕ
  pub number : ℕ
  pub edits : List EditValue

-- the current batch
abbrev pub under_way : Packing → BatchValue
under_way p = numbered p.key p.number p.edits

-- it is within the limits
abbrev pub is_passing : Packing → Bool
is_passing p = passes p.each p.key p.number p.edits

-- with one more edit
abbrev pub with_edit : Packing → EditValue → Packing
with_edit p e = record p { edits = p.edits ++ e ∷ [] }

-- the next batch, which has no edit yet
abbrev pub next : Packing → Packing
next p = record p { number = p.number + 1; edits = [] }

-- the comma before an edit that follows these
abbrev pub comma_after : {A : Type 0} → List A → List ℕ
comma_after [] = []
comma_after (x ∷ xs) = 44 ∷ []
