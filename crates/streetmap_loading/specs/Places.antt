-- Edits with their places in the text that they come from.
use Rattle.std.specs.Prelude.{ℕ, ◌-◌, List, map, slice_get, Option, None, Some, unwrap_or}
use Rattle.streetmap_batch.specs.BatchValue.{EditValue}

-- the place of the edit's feature, counted from 1: an opening has none
pub record PlacedValue : Type 0 where
  pub place : Option ℕ
  pub edit : EditValue

-- the edits alone
abbrev pub edits_of : List PlacedValue → List EditValue
edits_of placed = map (λ (p : PlacedValue). p.edit) placed

-- their places
abbrev pub places_of : List PlacedValue → List (Option ℕ)
places_of placed = map (λ (p : PlacedValue). p.place) placed

-- the place in the text of the edit at this place in a batch, whose edits have these places
abbrev pub text_place : List (Option ℕ) → Option ℕ → Option ℕ
text_place places None = None
text_place places (Some n) = unwrap_or (slice_get places (n - 1)) None
