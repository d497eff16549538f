-- The lines that are written are those of a journal.
use Rattle.std.specs.Prelude.{◌≡◌, ℕ, map, drop}
use Rattle.streetmap_ledger.specs.State.{State}
use Rattle.streetmap_ledger.specs.WellFormed.{IsState}
use Rattle.streetmap_ledger.specs.Kept.{batches_after}
use Rattle.streetmap_replay.specs.JournalText.{journal_lines}
use Rattle.streetmap_exchange.specs.Printed.{line_of}

-- the lines of the batches after serial N are the lines of the journal after the first N
abbrev pub LinesAreOfTheJournal : Type 0
LinesAreOfTheJournal =
    (s : State) (after : ℕ) → IsState s →
    map line_of (batches_after s after) ≡ drop after (journal_lines s)
