-- Batches that are written, a line each.
use Rattle.std.specs.Prelude.{◌≡◌, ℕ, List, [], ◌∷◌, ◌++◌, Option, None, Result, Ok, Err, ⊤}
use Rattle.std.specs.Io.KnownBytes.{Appends}
use Rattle.streetmap_batch.specs.BatchText.{batch_text}
use Rattle.streetmap_batch.specs.BatchValue.{BatchValue}
use Rattle.streetmap_ledger.specs.declared.reply.Fault.TheVariants.{Memory}
use Rattle.streetmap_text_lines.specs.Written.{AppendsBeginning}
use Rattle.streetmap_loading.specs.declared.load_fault.LoadFault.{LoadFault}
use Rattle.streetmap_loading.specs.declared.load_fault.LoadFault.TheVariants.{Stopped, WriteFailed}

-- the text of a batch, and a line feed
abbrev pub line_of : BatchValue → List ℕ
line_of b = batch_text b ++ 10 ∷ []

-- the ways in which a write may stop: memory runs out, or the write fails
abbrev pub IsOfWrite : LoadFault → Type 0
IsOfWrite (Stopped Memory) = ⊤
IsOfWrite WriteFailed = ⊤
IsOfWrite _ = ⊥

-- the batch was written, or a prefix of its line
abbrev pub Prints : BatchValue → Result (Option ℕ) LoadFault → Option (List ℕ) → Option (List ℕ)
    → Type 0
Prints b (Ok serial) old new = (serial ≡ None) × Appends old new (line_of b)
Prints b (Err fault) old new = IsOfWrite fault × AppendsBeginning old new (line_of b)
