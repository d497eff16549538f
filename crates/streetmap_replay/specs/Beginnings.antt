-- Following the lines of a journal.
use Rattle.std.specs.Prelude.{◌≡◌, ◌+◌, ℕ, max, List, ◌++◌, take, All, Option, None, Some}
use Rattle.streetmap_batch.specs.BatchValue.{BatchValue}
use Rattle.streetmap_ledger.specs.State.{State}
use Rattle.streetmap_replay.specs.FollowedLines.{follower}
use Rattle.streetmap_replay.specs.JournalText.{text_of_lines}
use Rattle.streetmap_replay.specs.Lines.{Line}
use Rattle.streetmap_replay.specs.Sittings.{IsLineOf, highest}
use Rattle.streetmap_text_lines.specs.LineReads.{HasNoLineFeed}
use Rattle.streetmap_ledger.specs.declared.reply.Fault.{Fault}
use Rattle.streetmap_ledger.specs.declared.reply.Fault.TheVariants.{Memory, Device, Damaged, Reopen}
use Rattle.streetmap_replay.specs.declared.follow_fault.FollowFault.{FollowFault}
use Rattle.streetmap_replay.specs.declared.follow_fault.FollowFault.TheVariants as ends

-- the input is known: lines of the journal of these batches, in any order and repeated at will, and
-- maybe a prefix of a line after them
abbrev pub IsOfJournal : List BatchValue → List Line → Option (List ℕ) → Type 0
IsOfJournal bs lines None = ⊥
IsOfJournal bs lines (Some input) =
    All (IsLineOf bs) lines
    × ((part : List ℕ) × (input ≡ text_of_lines lines ++ part) × HasNoLineFeed part)

-- a keeper's fault changes nothing that is known, unless its store failed
abbrev pub KeepsBut : State → Fault → (State → Type 0) → Type 0
KeepsBut s Memory represents = represents s
KeepsBut s Device represents = Unit {0}
KeepsBut s Damaged represents = ⊥
KeepsBut s Reopen represents = ⊥

-- a follower of the journal's first k lines that then followed a prefix of these lines is the
-- follower up to the highest serial among them, or as before
abbrev pub FollowerBy : List BatchValue → ℕ → List Line → (count : ℕ) → Option FollowFault
    → (State → Type 0) → Type 0
FollowerBy bs k lines count (Some ends.NotReported) represents =
    represents (follower bs (max k (highest (take (count + 1) lines))))
FollowerBy bs k lines count (Some (ends.Stopped fault)) represents =
    KeepsBut (follower bs (max k (highest (take count lines)))) fault represents
FollowerBy bs k lines count why represents =
    represents (follower bs (max k (highest (take count lines))))
