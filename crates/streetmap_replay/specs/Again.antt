-- The text of a batch reads again.
use Rattle.std.specs.Prelude.{◌≡◌, ℕ, List, Ok, map}
use Rattle.streetmap_geojson.specs.FeatureValue.{untimed}
use Rattle.streetmap_batch.specs.BatchValue as edit
use Rattle.streetmap_batch.specs.BatchValue.{EditValue, BatchValue}
use Rattle.streetmap_batch.specs.BatchFacts.{IsSoundBatch}
use Rattle.streetmap_batch.specs.BatchMeaning.{IsBatchText}
use Rattle.streetmap_batch.specs.ParsedBatches.{batch_of}
use Rattle.streetmap_batch.specs.BatchText.{batch_text}
use Rattle.streetmap_ledger.specs.State.{State}
use Rattle.streetmap_ledger.specs.Batches.{act}

-- an edit without the time of its feature: what its text holds
abbrev pub untimed_edit : EditValue → EditValue
untimed_edit (edit.«open» name title time) = edit.«open» name title time
untimed_edit (edit.insert name f) = edit.insert name (untimed f)
untimed_edit (edit.replace name f) = edit.replace name (untimed f)
untimed_edit (edit.delete name id) = edit.delete name id

abbrev pub untimed_batch : BatchValue → BatchValue
untimed_batch b = record { key = b.key; edits = map untimed_edit b.edits }

-- what the text of a batch reads as
abbrev pub BatchTextReadsAgain : Type 0
BatchTextReadsAgain = (b : BatchValue) → IsSoundBatch b →
    IsBatchText (batch_text b) (untimed_batch b) × (batch_of (batch_text b) ≡ Ok (untimed_batch b))

-- a batch that was read from a text has no times, so its text reads as exactly that batch
abbrev pub ReadBatchIsUntimed : Type 0
ReadBatchIsUntimed = (bytes : List ℕ) (b : BatchValue) → IsBatchText bytes b → untimed_batch b ≡ b

-- a batch has the same effect without times, and the same text
abbrev pub TimesDoNotMatter : Type 0
TimesDoNotMatter = ((s : State) (b : BatchValue) → act s (untimed_batch b) ≡ act s b) ×
    ((b : BatchValue) → batch_text (untimed_batch b) ≡ batch_text b)
