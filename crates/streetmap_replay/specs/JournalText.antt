-- A journal as bytes: its lines, a line feed after each.
use Rattle.std.specs.Prelude.{◌≡◌, ◌≤◌, ◌+◌, ℕ, List, [], ◌∷◌, ◌++◌, All, length, map, take, drop}
use Rattle.std.specs.Prelude.{false, ◌==◌}
use Rattle.std.specs.Io.{StartsWith}
use Rattle.std.specs.Str.Lines.{lines}
use Rattle.streetmap_batch.specs.Text.{Text}
use Rattle.streetmap_batch.specs.BatchValue.{BatchValue}
use Rattle.streetmap_batch.specs.BatchFacts.{IsSoundBatch}
use Rattle.streetmap_ledger.specs.State.{State, opening_state}
use Rattle.streetmap_ledger.specs.WellFormed.{IsState}
use Rattle.streetmap_ledger.specs.Batches.{after_all}
use Rattle.streetmap_replay.specs.Journal.{journal}
use Rattle.streetmap_replay.specs.Lines.{Line, numbered, line_bytes, IsJournalLine}

-- texts with serials, the first with n + 1
abbrev pub numbered_after : ℕ → List Text → List Line
numbered_after n [] = []
numbered_after n (t ∷ ts) = numbered (n + 1) t ∷ numbered_after (n + 1) ts

-- the lines of a state's journal: each kept text with its serial, in order of serials
abbrev pub journal_lines : State → List Line
journal_lines s = numbered_after 0 (journal s)

-- lines as bytes
abbrev pub text_of_lines : List Line → List ℕ
text_of_lines [] = []
text_of_lines (line ∷ lines) = line_bytes line ++ 10 ∷ text_of_lines lines

-- a state's journal as bytes
abbrev pub journal_text : State → List ℕ
journal_text s = text_of_lines (journal_lines s)

-- the lines of the bytes of a journal are its lines, each of which reads as itself
abbrev pub JournalReadsInLines : Type 0
JournalReadsInLines =
    (bs : List BatchValue) → All IsSoundBatch bs →
    let s = after_all opening_state bs in
    (lines (journal_text s) ≡ map line_bytes (journal_lines s))
    × All (λ line. IsJournalLine (line_bytes line) line) (journal_lines s)

-- a prefix of the bytes of lines: some of the lines from the first on, whole, and a prefix of the
-- next, which has no line feed; with that cut off, the other lines complete it
pub record IsTorn (whole : List Line) (bytes : List ℕ) : Type 0 where
  pub count : ℕ
  pub within : count ≤ length whole
  pub torn : List ℕ
  pub is : bytes ≡ text_of_lines (take count whole) ++ torn
  pub unended : All (λ b. (b == 10) ≡ false) torn
  pub completed :
      text_of_lines (take count whole) ++ text_of_lines (drop count whole) ≡ text_of_lines whole

-- a prefix of the journal of a state that batches made is such bytes; and a prefix of a state's
-- journal is a prefix of the journal of each later state
abbrev pub BeginningsAreTorn : Type 0
BeginningsAreTorn =
    ((bs : List BatchValue) (bytes : List ℕ) → All IsSoundBatch bs →
    StartsWith (journal_text (after_all opening_state bs)) bytes →
    IsTorn (journal_lines (after_all opening_state bs)) bytes)
    × ((s : State) (bs : List BatchValue) (bytes : List ℕ) → IsState s → All IsSoundBatch bs →
    StartsWith (journal_text s) bytes → StartsWith (journal_text (after_all s bs)) bytes)
