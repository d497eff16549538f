-- What is written of a journal.
use Rattle.std.specs.Prelude.{◌≡◌, ◌≤◌, ◌<◌, ◌+◌, ◌-◌, ◌^◌, ℕ, min, Bool, true, false, List}
use Rattle.std.specs.Prelude.{◌++◌}
use Rattle.std.specs.Prelude.{take, drop, length, Option, None, Some, Result, Ok, Err, IsSome}
use Rattle.std.specs.Io.KnownBytes.{Appends}
use Rattle.streetmap_ledger.specs.State.{State}
use Rattle.streetmap_ledger.specs.declared.reply.Fault.{Fault}
use Rattle.streetmap_ledger.specs.declared.reply.Reply.{Reply}
use Rattle.streetmap_replay.specs.Lines.{Line}
use Rattle.streetmap_replay.specs.JournalText.{journal_lines, text_of_lines}
use Rattle.streetmap_journal.specs.declared.journal.Journal.{Journal}

-- how far a journal is: the serial after which it begins, that of its next line, how many bytes of
-- that line are written, and whether the journal is behind
pub record Position : Type 0 where
  pub after : ℕ
  pub next : ℕ
  pub part : ℕ
  pub behind : Bool

abbrev pub position_of : {W : Type 0} → Journal W → Position
position_of journal = record {
  after = journal.after;
  next = journal.next;
  part = journal.part;
  behind = journal.is_behind;
}

-- the bytes of each writer of this type are known
abbrev pub TellBytes : {W : Type 0} → (W → Option (List ℕ)) → Type 0
TellBytes {W} contents = (w : W) → IsSome (contents w)

-- the lines of the state's journal after one serial and before another
abbrev pub lines_between : State → (after next : ℕ) → List Line
lines_between s after next = drop after (take (next - 1) (journal_lines s))

-- the bytes of the line with this serial, with its line feed: none if no batch has it
abbrev pub line_at : State → ℕ → List ℕ
line_at s serial = text_of_lines (take 1 (drop (serial - 1) (journal_lines s)))

-- the bytes are the lines before the next, and a prefix of that one
pub record Reaches (p : Position) (bytes : List ℕ) (s : State) : Type 0 where
  pub behind_first : p.after < p.next
  pub within : p.next ≤ length (journal_lines s) + 1
  pub is :
      bytes ≡ text_of_lines (lines_between s p.after p.next) ++ take p.part (line_at s p.next)
  pub part : p.part ≤ length (line_at s p.next)

-- and they are all lines, if the journal is not behind
pub record IsJournalOf (p : Position) (bytes : List ℕ) (s : State) : Type 0 where
  pub reaches : Reaches p bytes s
  pub whole : p.behind ≡ false → p.next ≡ length (journal_lines s) + 1

-- the bytes are known, and are such a journal
abbrev pub HoldsJournal : Position → Option (List ℕ) → State → Type 0
HoldsJournal p None s = ⊥
HoldsJournal p (Some bytes) s = IsJournalOf p bytes s

-- a journal is written for this state
abbrev pub HoldsIn : {W : Type 0} → (W → Option (List ℕ)) → Journal W → State → Type 0
HoldsIn contents journal s = HoldsJournal (position_of journal) (contents journal.writer) s

-- the missing bytes of the next line were written, and the line after it is next; or a prefix of
-- them was
abbrev pub PutsBy : (whole : Bool) → Position → Position → Option (List ℕ) → Option (List ℕ) →
    List ℕ → Type 0
PutsBy true p q old new line =
    (q.after ≡ p.after) × (q.next ≡ min (p.next + 1) (2 ^ 64 - 1)) × (q.part ≡ 0)
    × Appends old new (drop p.part line)
PutsBy false p q old new line =
    (q.after ≡ p.after) × (q.next ≡ p.next) × (p.part ≤ q.part) × (q.part ≤ length line)
    × Appends old new (drop p.part (take q.part line))

-- if no more bytes of the line are written than it has
abbrev pub PutsLine : (whole : Bool) → Position → Position → Option (List ℕ) → Option (List ℕ) →
    List ℕ → Type 0
PutsLine whole p q old new line =
    p.part ≤ length line → PutsBy whole p q old new line × (q.behind ≡ p.behind)

-- the same, and it is kept only if the whole line was written
abbrev pub KeepsLine : (kept : Bool) → Position → Position → Option (List ℕ) →
    Option (List ℕ) → List ℕ → Type 0
KeepsLine kept p q old new line =
    p.part ≤ length line →
    (whole : Bool) × PutsBy whole p q old new line × (q.behind ≡ p.behind)
    × (kept ≡ true → whole ≡ true)

-- a line was written and kept; or a prefix of it was written, or it was not kept, and the journal
-- is behind; one that is behind stays as it is
abbrev pub NotesBy : (behind : Bool) → Position → Position → Option (List ℕ) → Option (List ℕ) →
    List ℕ → Type 0
NotesBy true p q old new line = (q ≡ p) × (new ≡ old)
NotesBy false p q old new line =
    p.part ≤ length line →
    (whole : Bool) × PutsBy whole p q old new line × (q.behind ≡ false → whole ≡ true)

abbrev pub NotesLine : Position → Position → Option (List ℕ) → Option (List ℕ) → List ℕ → Type 0
NotesLine p q old new line = NotesBy p.behind p q old new line

-- this holds of the reply to a batch; of a fault nothing is claimed
abbrev pub OfReply : (Result Reply Fault → Type 0) → Result Reply Fault → Type 0
OfReply came (Ok reply) = came (Ok reply)
OfReply came (Err fault) = Unit {0}
