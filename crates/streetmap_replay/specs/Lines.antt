-- Lines of a journal: a batch with its serial, or a batch alone.
use Rattle.std.specs.Prelude.{◌≡◌, ◌<◌, ◌^◌, ℕ, List, ◌∷◌, ◌++◌, decimal}
use Rattle.streetmap_batch.specs.Text.{Text}
use Rattle.streetmap_batch.specs.BatchText.{batch_text}
use Rattle.streetmap_batch.specs.BatchValue.{BatchValue}
use Rattle.streetmap_batch.specs.BatchFacts.{IsSoundBatch}

-- a batch alone, or a batch with its serial
pub data Line : Type 0 where
  bare : (text : Text) → Line
  numbered : (serial : ℕ) (text : Text) → Line

-- the bytes of a line: the text; or the serial in decimal, a tab and the text
abbrev pub line_bytes : Line → List ℕ
line_bytes (bare text) = text
line_bytes (numbered serial text) = decimal serial ++ 9 ∷ text

-- bytes as a line: a batch with its serial if they have that form, else a batch alone
abbrev pub IsJournalLine : List ℕ → Line → Type 0
IsJournalLine bytes (numbered serial text) =
    (line_bytes (numbered serial text) ≡ bytes) × (serial < 2 ^ 64)
IsJournalLine bytes (bare text) =
    (text ≡ bytes)
    × ((serial : ℕ) (rest : Text) → serial < 2 ^ 64 → line_bytes (numbered serial rest) ≡ bytes → ⊥)

-- the same bytes are only one line, and the text of a batch is a batch alone
abbrev pub LinesAreOne : Type 0
LinesAreOne =
    ((bytes : List ℕ) (x y : Line) → IsJournalLine bytes x → IsJournalLine bytes y → x ≡ y)
    × ((b : BatchValue) → IsSoundBatch b → IsJournalLine (batch_text b) (bare (batch_text b)))
