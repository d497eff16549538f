-- Lines of a journal that are followed in several sittings.
use Rattle.std.specs.Prelude.{◌≡◌, ℕ, max, List, [], ◌∷◌, ◌++◌, length, take, slice_get, Some, All}
use Rattle.streetmap_batch.specs.BatchValue.{BatchValue}
use Rattle.streetmap_ledger.specs.State.{State, opening_state}
use Rattle.streetmap_ledger.specs.Batches.{after_all}
use Rattle.streetmap_batch.specs.BatchFacts.{IsSoundBatch}
use Rattle.streetmap_replay.specs.Lines.{Line, bare, numbered}
use Rattle.streetmap_replay.specs.JournalText.{journal_lines}
use Rattle.streetmap_replay.specs.FollowedLines.{follow, follower}

-- the state after sittings: in each, lines are followed up to the first that is not, and the next
-- goes on with the state that it left
abbrev pub after_sittings : State → List (List Line) → State
after_sittings s [] = s
after_sittings s (lines ∷ later) = after_sittings (follow s lines).state later

-- the lines that were followed in a sitting
abbrev pub followed_of : State → List Line → List Line
followed_of s lines = take (length (follow s lines).replies) lines

-- the lines that were followed in all of them
abbrev pub followed_in : State → List (List Line) → List Line
followed_in s [] = []
followed_in s (lines ∷ later) =
    followed_of s lines ++ followed_in (follow s lines).state later

-- the highest serial of lines, 0 if none has one
abbrev pub highest : List Line → ℕ
highest [] = 0
highest (bare text ∷ lines) = highest lines
highest (numbered serial text ∷ lines) = max serial (highest lines)

-- a line of the journal of these batches
abbrev pub IsLineOf : List BatchValue → Line → Type 0
IsLineOf bs line =
    (n : ℕ) × (slice_get (journal_lines (after_all opening_state bs)) n ≡ Some line)

-- a follower of lines of a journal, from the opening state on, in any number of sittings, with any
-- line again at any time, has the state after the first k accepted batches, where k is the highest
-- serial that was followed
abbrev pub SittingsAddUp : Type 0
SittingsAddUp =
    (bs : List BatchValue) (sittings : List (List Line)) → All IsSoundBatch bs →
    All (All (IsLineOf bs)) sittings →
    after_sittings opening_state sittings
    ≡ follower bs (highest (followed_in opening_state sittings))
