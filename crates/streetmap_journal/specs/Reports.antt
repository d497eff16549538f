-- What the writer of a journal knows, and how a journal belongs to a state.
use Rattle.std.specs.Prelude.{◌≡◌, ◌≤◌, ℕ, Bool, true, false, List, Option, None, Some}
use Rattle.streetmap_ledger.specs.State.{State}
use Rattle.streetmap_journal.specs.Written.{TellBytes, HoldsIn}
use Rattle.streetmap_journal.specs.declared.journal.Journal.{Journal}

-- if lines are missing, the writer was given a serial before which none is; if none is, it was
-- informed of that, and all are kept
abbrev pub IsInformedBy : (behind : Bool) → (next : ℕ) → (reported : Option ℕ) → (kept : Type 0)
    → Type 0
IsInformedBy false next reported kept = (reported ≡ None) × kept
IsInformedBy true next reported kept = (serial : ℕ) × (reported ≡ Some serial) × (serial ≤ next)

abbrev pub WriterIsInformed :
    {W : Type 0} → (reported : W → Option ℕ) → (kept : W → Type 0) → Journal W → Type 0
WriterIsInformed reported kept journal =
    IsInformedBy journal.is_behind journal.next (reported journal.writer) (kept journal.writer)

-- the journal of a state: its writer knows what is missing; and if the bytes of all writers of its
-- type are known, they are the lines
abbrev pub IsFor : {W : Type 0} → (contents : W → Option (List ℕ)) → (reported : W → Option ℕ) →
    (kept : W → Type 0) → Journal W → State → Type 0
IsFor contents reported kept journal s =
    WriterIsInformed reported kept journal × (TellBytes contents → HoldsIn contents journal s)

-- the same, if a journal is written
abbrev pub IsForIf : {W : Type 0} → (contents : W → Option (List ℕ)) → (reported : W → Option ℕ) →
    (kept : W → Type 0) → Option (Journal W) → State → Type 0
IsForIf contents reported kept None s = Unit {0}
IsForIf contents reported kept (Some journal) s = IsFor contents reported kept journal s

-- from the first to the second: no line is missing in the end, or the writer failed
abbrev pub IsWholeUnless : {W : Type 0} → (W → W → Type 0) → Journal W → Journal W → Type 0
IsWholeUnless fails old new = new.is_behind ≡ true → fails old.writer new.writer

-- the same, if a journal is written
abbrev pub ReachesUnless :
    {W : Type 0} → (W → W → Type 0) → Option (Journal W) → Option (Journal W) → Type 0
ReachesUnless fails None None = Unit {0}
ReachesUnless fails None (Some new) = ⊥
ReachesUnless fails (Some old) None = ⊥
ReachesUnless fails (Some old) (Some new) = IsWholeUnless fails old new
