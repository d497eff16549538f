-- How a journal that lacks lines is completed.
use Rattle.std.specs.Prelude.{◌≡◌, ◌++◌, ℕ, List, [], ◌∷◌, Option, None, Some, option_map}
use Rattle.streetmap_batch.specs.Text.{Text}
use Rattle.streetmap_ledger.specs.State.{State}
use Rattle.streetmap_ledger.specs.Kept.{batch_in}
use Rattle.streetmap_replay.specs.Journal.{kept_text}
use Rattle.streetmap_replay.specs.Lines.{numbered, line_bytes}

-- the line of the batch with this serial, with its line feed; or no batch has the serial
abbrev pub IsKeptLine : State → ℕ → Option (List ℕ) → Type 0
IsKeptLine s serial None = batch_in s serial ≡ None
IsKeptLine s serial (Some line) =
    (text : Text) × (option_map kept_text (batch_in s serial) ≡ Some text)
    × (line ≡ line_bytes (numbered serial text) ++ 10 ∷ [])
