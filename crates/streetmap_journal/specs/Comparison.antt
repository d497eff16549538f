-- Lines compared with the journal of a state.
use Rattle.std.specs.Prelude.{◌≡◌, ◌≤◌, ◌<◌, ◌+◌, ◌-◌, ◌^◌, ℕ, min, List, [], ◌∷◌, ◌++◌, true}
use Rattle.std.specs.Prelude.{Option, None, Some, Result, Ok, Err, IfSome, length, take, drop}
use Rattle.std.specs.Prelude.{option_map, ◌==◌, if◌then◌else◌}
use Rattle.std.specs.Io.{StartsWith}
use Rattle.std.specs.Io.KnownBytes.{Consumes}
use Rattle.streetmap_ledger.specs.State.{State}
use Rattle.streetmap_ledger.specs.Kept.{batch_in}
use Rattle.streetmap_ledger.specs.declared.reply.Fault.TheVariants.{Memory}
use Rattle.streetmap_replay.specs.Journal.{kept_text}
use Rattle.streetmap_replay.specs.JournalText.{journal_lines, text_of_lines}
use Rattle.streetmap_replay.specs.Lines.{Line, numbered, line_bytes}
use Rattle.streetmap_replay.specs.Calls.{LastAnswer, fails_by}
use Rattle.streetmap_journal.specs.Front.{are_zeros}
use Rattle.streetmap_journal.specs.declared.front.Left.{Left}
use Rattle.streetmap_journal.specs.declared.front.Left.TheVariants as left
use Rattle.streetmap_journal.specs.declared.comparison.Matched.{Matched}
use Rattle.streetmap_journal.specs.declared.comparison.MatchEnd.{MatchEnd}
use Rattle.streetmap_journal.specs.declared.comparison.MatchEnd.TheVariants.{All, Cut, Other, Ahead}
use Rattle.streetmap_journal.specs.declared.comparison.MatchEnd.TheVariants.{NotRead, Stopped}

-- what a crash leaves of a line that was being written: a prefix of it, and then only zeros
pub record IsCutOf (line bytes : List ℕ) : Type 0 where
  pub part : List ℕ
  pub zeros : List ℕ
  pub is : bytes ≡ part ++ zeros
  pub begins : StartsWith line part
  pub alone : are_zeros zeros ≡ true
  pub some : 0 < length bytes

-- the bytes of the line of the batch with this serial, with its line feed, if a batch has it
abbrev pub line_of : State → ℕ → Option (List ℕ)
line_of s serial =
    option_map (λ b. line_bytes (numbered serial (kept_text b)) ++ 10 ∷ []) (batch_in s serial)

-- the rest of an input ends in this way, if this line is due
abbrev pub EndsWithin : (line rest : List ℕ) → MatchEnd → Type 0
EndsWithin line rest All = rest ≡ []
EndsWithin line rest Cut = IsCutOf line rest × (StartsWith rest line → ⊥)
EndsWithin line rest Other =
    (rest ≡ [] → ⊥) × (IsCutOf line rest → ⊥) × (StartsWith rest line → ⊥)
EndsWithin line rest Ahead = ⊥
EndsWithin line rest NotRead = Unit {0}
EndsWithin line rest (Stopped fault) = Unit {0}

-- the serial and the tab with which a line begins
abbrev pub line_head : ℕ → List ℕ
line_head serial = line_bytes (numbered serial [])

-- the rest of an input ends in this way, if no batch is kept with this serial
abbrev pub EndsAfterLast : (serial : ℕ) → (rest : List ℕ) → MatchEnd → Type 0
EndsAfterLast serial rest All = rest ≡ []
EndsAfterLast serial rest Cut = IsCutOf [] rest
EndsAfterLast serial rest Other =
    (rest ≡ [] → ⊥) × (IsCutOf [] rest → ⊥) × (StartsWith rest (line_head serial) → ⊥)
EndsAfterLast serial rest Ahead = StartsWith rest (line_head serial)
EndsAfterLast serial rest NotRead = Unit {0}
EndsAfterLast serial rest (Stopped fault) = Unit {0}

-- the rest of an input ends in this way, whether a line is due or none is
abbrev pub EndsBy : (due : Option (List ℕ)) → (serial : ℕ) → (rest : List ℕ) → MatchEnd → Type 0
EndsBy None serial rest end = EndsAfterLast serial rest end
EndsBy (Some line) serial rest end = EndsWithin line rest end

-- the end by what is left of an input after this number of bytes of a line
abbrev pub ends_of : Left → (count : ℕ) → MatchEnd
ends_of left.Nothing count = if count == 0 then All else Cut
ends_of left.Zeros count = Cut
ends_of left.Other count = Other

-- the keeper was not the cause of an end
abbrev pub IsOwn : MatchEnd → Type 0
IsOwn (Stopped fault) = fault ≡ Memory
IsOwn end = Unit {0}

-- the reader failed
abbrev pub IsUnread : MatchEnd → Type 0
IsUnread NotRead = Unit {0}
IsUnread (Stopped fault) = fault ≡ Memory
IsUnread All = ⊥
IsUnread Cut = ⊥
IsUnread Other = ⊥
IsUnread Ahead = ⊥

-- the keeper's fault, if it was the cause of an end, or `Memory`
abbrev pub end_answer : MatchEnd → LastAnswer
end_answer (Stopped fault) = fails_by fault
end_answer end = None

-- the same of the result for a line
abbrev pub line_answer : Result ℕ MatchEnd → LastAnswer
line_answer (Ok more) = None
line_answer (Err end) = end_answer end

-- the line of the batch with this serial was taken off after this number of bytes, or something
-- else was next
abbrev pub MatchesLine : State → (serial bytes : ℕ) → (old new : Option (List ℕ)) →
    Result ℕ MatchEnd → Type 0
MatchesLine s serial bytes old new (Ok more) =
    (line : List ℕ) × (line_of s serial ≡ Some line) × Consumes old new line
    × (more ≡ bytes + length line)
MatchesLine s serial bytes old new (Err end) =
    IfSome old (λ rest. EndsBy (line_of s serial) serial rest end)
    × (end ≡ Ahead → batch_in s serial ≡ None)

-- that number of lines of a state's journal after a serial
abbrev pub lines_from : State → ℕ → ℕ → List Line
lines_from s after count = take count (drop after (journal_lines s))

-- the input begins with these bytes
abbrev pub InputBeginsWith : Option (List ℕ) → List ℕ → Type 0
InputBeginsWith input front = IfSome input (λ bytes. (rest : List ℕ) × (bytes ≡ front ++ rest))

-- the serial of the line after this number of lines, as far as it is a number of 64 bits
abbrev pub serial_following : (after count : ℕ) → ℕ
serial_following after count = min (min (after + count) (2 ^ 64 - 1) + 1) (2 ^ 64 - 1)

-- what follows the first bytes of the input
abbrev pub RestIs : Option (List ℕ) → (front : List ℕ) → (List ℕ → Type 0) → Type 0
RestIs input front P =
    IfSome input (λ bytes. (rest : List ℕ) × (bytes ≡ front ++ rest) × P rest)

-- this number of the first lines are those of the state's journal after a serial, and what follows
-- them is known by the end; `Ahead` comes only if the state has no batch for the next line
pub record Matches (s : State) (after : ℕ) (input : Option (List ℕ)) (result : Matched) : Type 0
  where
    pub within : result.count ≤ length (drop after (journal_lines s))
    pub front : InputBeginsWith input (text_of_lines (lines_from s after result.count))
    pub size : result.bytes ≡ length (text_of_lines (lines_from s after result.count))
    pub ends :
        RestIs input (text_of_lines (lines_from s after result.count))
        (λ rest. EndsBy (line_of s (serial_following after result.count))
        (serial_following after result.count) rest result.end)
    pub ahead : result.end ≡ Ahead → batch_in s (serial_following after result.count) ≡ None
