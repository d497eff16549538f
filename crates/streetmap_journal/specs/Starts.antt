-- How a journal begins.
use Rattle.std.specs.Prelude.{◌≡◌, ◌≤◌, ◌<◌, ◌^◌, ◌⊎◌, ℕ, List, Option, None, Some, Result, Ok, Err}
use Rattle.std.specs.Prelude.{IfSome, ◌-◌, ◌==◌, if◌then◌else◌}
use Rattle.std.specs.declared.io.Error.{Error}
use Rattle.std.specs.Io.{StartsWith}
use Rattle.streetmap_ledger.specs.Kept.{batch_count}
use Rattle.streetmap_ledger.specs.State.{State}
use Rattle.streetmap_ledger.specs.declared.reply.Fault.TheVariants.{Memory}
use Rattle.streetmap_replay.specs.Calls.{LastAnswer, fails_by}
use Rattle.streetmap_journal.specs.Comparison.{Matches, line_head, serial_following, end_answer}
use Rattle.streetmap_journal.specs.Written.{HoldsIn}
use Rattle.streetmap_journal.specs.declared.journal.Journal.{Journal}
use Rattle.streetmap_journal.specs.declared.comparison.Matched.{Matched}
use Rattle.streetmap_journal.specs.declared.comparison.MatchEnd.TheVariants as ends
use Rattle.streetmap_journal.specs.declared.starts.StartFault.{StartFault}
use Rattle.streetmap_journal.specs.declared.starts.StartFault.TheVariants.{Ahead, Other}
use Rattle.streetmap_journal.specs.declared.starts.StartFault.TheVariants.{NotOpened, NotRead}
use Rattle.streetmap_journal.specs.declared.starts.StartFault.TheVariants.{Stopped}

-- the first line's serial, if bytes begin with one and a tab
abbrev pub HasFirstSerial : List ℕ → Option ℕ → Type 0
HasFirstSerial bytes (Some serial) = StartsWith bytes (line_head serial) × (serial < 2 ^ 64)
HasFirstSerial bytes None =
    (serial : ℕ) → serial < 2 ^ 64 → StartsWith bytes (line_head serial) → ⊥

-- the serial before a first line's, or the requested one
abbrev pub serial_after : (first : Option ℕ) → (requested : ℕ) → ℕ
serial_after None requested = requested
serial_after (Some serial) requested = if serial == 0 then requested else serial - 1

-- a journal of these bytes begins after this serial
abbrev pub BeginsAfter : List ℕ → (requested after : ℕ) → Type 0
BeginsAfter bytes requested after =
    (first : Option ℕ) × HasFirstSerial bytes first × (after ≡ serial_after first requested)

-- the keeper was not the cause of a fault
abbrev pub IsOwnFault : StartFault → Type 0
IsOwnFault (Stopped fault) = fault ≡ Memory
IsOwnFault Ahead = ⊥
IsOwnFault (Other serial) = ⊥
IsOwnFault fault = Unit {0}

-- the keeper's fault, if it ended the comparison of its lines, or `Memory`
abbrev pub compared_answer : Result Matched Error → LastAnswer
compared_answer (Ok matched) = end_answer matched.end
compared_answer (Err error) = None

-- why it is not begun, by the end of its lines
abbrev pub ChecksEnd : (after : ℕ) → Matched → Result (Unit {0}) StartFault → Type 0
ChecksEnd after matched (Ok _) = (matched.end ≡ ends.All) ⊎ (matched.end ≡ ends.Cut)
ChecksEnd after matched (Err (Other serial)) =
    (matched.end ≡ ends.Other) × (serial ≡ serial_following after matched.count)
ChecksEnd after matched (Err Ahead) = matched.end ≡ ends.Ahead
ChecksEnd after matched (Err NotRead) = matched.end ≡ ends.NotRead
ChecksEnd after matched (Err (Stopped fault)) = matched.end ≡ ends.Stopped fault
ChecksEnd after matched (Err (NotOpened error)) = ⊥

-- a journal holds what it has to, as far as it did before
abbrev pub BeginsBy : {W : Type 0} → State → (W → Option (List ℕ)) → (old new : Journal W)
    → Type 0
BeginsBy s contents old new =
    (new.after ≡ old.after) × (HoldsIn contents old s → HoldsIn contents new s)

-- the bytes found match the state's journal, by the lines after the serial where it begins
pub record Finds (s : State) (requested after : ℕ) (bytes : Option (List ℕ)) (found : Matched) :
    Type 0 where
  pub begins : IfSome bytes (λ bs. BeginsAfter bs requested after)
  pub matches : Matches s after bytes found

-- The journal was begun: the bytes found were its lines, up to the cut of one, and it holds all
-- lines then, or, if it is behind, the first of them; and the state has the batches before its
-- first line. Or it has serials that the state lacks, or another line.
abbrev pub StartsBy : {W : Type 0} → State → (requested : ℕ) → Option (List ℕ) →
    (W → Option (List ℕ)) → Result (Journal W) StartFault → Type 0
StartsBy s requested bytes contents (Ok journal) =
    (journal.after ≤ batch_count s)
    × ((found : Matched) × Finds s requested journal.after bytes found
    × ((found.end ≡ ends.All) ⊎ (found.end ≡ ends.Cut)))
    × IfSome bytes (λ _. HoldsIn contents journal s)
StartsBy s requested bytes contents (Err Ahead) =
    (after : ℕ) × IfSome bytes (λ bs. BeginsAfter bs requested after)
    × ((batch_count s < after)
    ⊎ ((found : Matched) × Finds s requested after bytes found × (found.end ≡ ends.Ahead)))
StartsBy s requested bytes contents (Err (Other serial)) =
    (after : ℕ) × (found : Matched) × Finds s requested after bytes found
    × (found.end ≡ ends.Other) × (serial ≡ serial_following after found.count)
StartsBy s requested bytes contents (Err (NotOpened error)) = Unit {0}
StartsBy s requested bytes contents (Err NotRead) = Unit {0}
StartsBy s requested bytes contents (Err (Stopped fault)) = Unit {0}

-- a journal was refused
abbrev pub IsRefused : {J : Type 0} → Result J StartFault → Type 0
IsRefused (Ok journal) = ⊥
IsRefused (Err (Stopped fault)) = ⊥
IsRefused (Err fault) = Unit {0}

-- the keeper's last answer: its fault, if a journal was not begun for that, or `Memory`; and
-- otherwise no fault
abbrev pub start_answer : {W : Type 0} → Result (Journal W) StartFault → LastAnswer
start_answer (Err (Stopped fault)) = fails_by fault
start_answer result = Some (Ok tt)

-- a writer failed, since some earlier time
abbrev pub HasFailedSince : {W : Type 0} → (W → W → Type 0) → W → Type 0
HasFailedSince {W} fails writer = (first : W) × fails first writer
