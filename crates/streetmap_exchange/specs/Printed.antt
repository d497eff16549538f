-- What is written of kept batches.
use Rattle.std.specs.Prelude.{◌≡◌, ℕ, max, List, ◌∷◌, ◌++◌, [], map, Option, Result, Ok, Err}
use Rattle.std.specs.Io.KnownBytes.{Appends}
use Rattle.streetmap_ledger.specs.State.{State}
use Rattle.streetmap_ledger.specs.Kept.{KeyedBatch, batch_count, batches_after}
use Rattle.streetmap_replay.specs.JournalText.{text_of_lines}
use Rattle.streetmap_replay.specs.Lines.{Line, numbered, line_bytes}
use Rattle.streetmap_text_lines.specs.Written.{AppendsBeginning}
use Rattle.streetmap_exchange.specs.declared.fault.ExportFault.{ExportFault}

-- the line of a batch: its serial and its text
abbrev pub line_of : KeyedBatch → Line
line_of b = numbered b.1.serial b.1.text

-- its bytes, with a line feed
abbrev pub line_text : KeyedBatch → List ℕ
line_text b = line_bytes (line_of b) ++ 10 ∷ []

-- the lines of batches as bytes
abbrev pub lines_text : List KeyedBatch → List ℕ
lines_text bs = text_of_lines (map line_of bs)

-- the lines of the batches after the serial were written, up to the last serial, or a prefix of
-- them
abbrev pub WritesLines : State → ℕ → Result ℕ ExportFault → Option (List ℕ) → Option (List ℕ)
    → Type 0
WritesLines s after (Ok last) old new =
    Appends old new (lines_text (batches_after s after)) × (last ≡ max after (batch_count s))
WritesLines s after (Err fault) old new =
    AppendsBeginning old new (lines_text (batches_after s after))
