-- Which keys were used.
use Rattle.std.specs.Prelude.{◌≡◌, Bool}
use Rattle.std.specs.FinMap.{get}
use Rattle.std.specs.Option.{is_some}
use Rattle.streetmap_batch.specs.Text.{Text}
use Rattle.streetmap_ledger.specs.State.{State}

-- a batch was accepted under this key
abbrev pub is_used : State → Text → Bool
is_used s key = is_some (get s.keys key)

-- whether one was
abbrev pub IsKeyUsed : Text → State → Bool → Type 0
IsKeyUsed key s used = used ≡ is_used s key
