-- The results of reads by a serial.
use Rattle.std.specs.Prelude.{◌≡◌, ℕ, ℤ, pos, Result, ◌-◌, ◌^◌, min, Option, Vec, nat_lt, if◌then◌else◌}
use Rattle.std.specs.Option.{option_map}
use Rattle.std.specs.declared.alloc.Global.{Global}
use Rattle.sqlite.specs.Order.{Row}
use Rattle.sqlite.specs.State.{State as Seen}
use Rattle.streetmap_ledger.specs.State.{State}
use Rattle.streetmap_rows.specs.Rows.{batch_cells}
use Rattle.streetmap_rows.specs.TableReads.{ReadsState}
use Rattle.streetmap_rows.specs.declared.fault.ReadFault.{ReadFault}
use Rattle.streetmap_ledger.specs.Kept.{KeyedBatch, batch_in, AreNext}
use Rattle.streetmap_ledger.specs.KeptView.{keyed_batch, keyed_batches}
use Rattle.streetmap_ledger.specs.declared.kept_batch.KeptBatch.{KeptBatch}

-- the row of a batch
abbrev pub row_of : KeyedBatch → Row
row_of b = batch_cells b.0 b.1

-- the row of the batch that is kept with a serial, or none
abbrev pub IsBatchRow : ℕ → State → Option Row → Type 0
IsBatchRow n s row = row ≡ option_map row_of (batch_in s n)

-- the row of the batch that is kept with a serial, if that is one
abbrev pub ReadsBatchRow : ℤ → Seen → Seen → Result (Option Row) ReadFault → Type 0
ReadsBatchRow serial old new result =
    (n : ℕ) → serial ≡ pos n → ReadsState (IsBatchRow n) old new result

-- the batch that is kept with a serial, or none
abbrev pub IsBatchOf : ℕ → State → Option KeptBatch → Type 0
IsBatchOf n s batch = option_map keyed_batch batch ≡ batch_in s n

-- the batches with the next serials after one
abbrev pub AreNextOf : ℕ → ℕ → State → Vec KeptBatch Global → Type 0
AreNextOf after room s found = AreNext s after room (keyed_batches found.items)

-- a serial as a column has it
abbrev pub column_serial : ℕ → ℕ
column_serial n = if nat_lt n (2 ^ 63) then n else 0

-- or the greatest that a column has
abbrev pub most_serial : ℕ → ℕ
most_serial n = min n (2 ^ 63 - 1)
