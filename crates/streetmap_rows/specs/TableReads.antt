-- What a call that queries a connection does.
use Rattle.std.specs.Prelude.{◌≡◌, false, None, Result, MatchResult}
use Rattle.sqlite.specs.Held.{Held, state}
use Rattle.sqlite.specs.State.{State as Seen, HasCleanDisk, IsUnchanged, KeepsCommit, Survives}
use Rattle.sqlite.specs.Store.{Ghosts}
use Rattle.sqlite_trees.specs.Tree.{Trees}
use Rattle.streetmap_ledger.specs.State.{State}
use Rattle.streetmap_rows.specs.Failures.{IsOfStore, HasReason}
use Rattle.streetmap_rows.specs.KeptStates.{Keeps}
use Rattle.streetmap_rows.specs.declared.fault.ReadFault.{ReadFault}
use Rattle.streetmap_rows.specs.declared.fault.ReadFault.TheVariants.{Memory, Store, Unread}

-- ---- what a read of the tables means

-- a read that stopped left the connection as it was, or the store failed for a reason; it met no
-- row that cannot be read
abbrev pub Stopped : Seen → Seen → ReadFault → Type 0
Stopped old new Memory = IsUnchanged old new
Stopped old new (Store e) = IsOfStore e × HasReason old new e × KeepsCommit old new
Stopped old new Unread = ⊥

-- a read of the database of a state: the result is as it is in the state, and nothing changes
abbrev pub ReadsState : {A : Type 0} → (State → A → Type 0) → Seen → Seen → Result A ReadFault
    → Type 0
ReadsState Is old new result =
    (s : State) → old.step_limit ≡ None → Keeps s old.now
    → MatchResult result (λ a. Is s a × IsUnchanged old new) (Stopped old new)

-- a crash leaves of a state's database what it could leave before
abbrev pub Stays : Seen → Seen → Type 0
Stays old new = HasCleanDisk new → (s : State) → old.step_limit ≡ None → Keeps s old.now
    → (trees : Trees) → new.may_leave trees → old.may_leave trees

-- ---- what the call does

module _ {S A : Type 0} (g : Ghosts S) (Means : Seen → Seen → A → Type 0) where
  -- A query of any tables. Its result has this meaning; it begins no transaction, no fault of the
  -- store is forgotten, and a crash leaves what it could leave before, or what the query commits.
  pub record Queries (Commits : Seen → Trees → Type 0) (old new : Held S) (result : A) : Type 0 where
    pub shows : HasCleanDisk (state g new) → Means (state g old) (state g new) result
    pub mode : old.in_transaction ≡ false → new.in_transaction ≡ false
    pub survives : Survives (state g old) (state g new) (Commits (state g old))

  -- A read of the tables of a state. It is such a query, and of the state's database a crash leaves
  -- what it could leave before.
  pub record ReadsTables (old new : Held S) (result : A) : Type 0 where
    pub shows : HasCleanDisk (state g new) → Means (state g old) (state g new) result
    pub mode : old.in_transaction ≡ false → new.in_transaction ≡ false
    pub survives : Survives (state g old) (state g new) (λ _. Unit {0})
    pub stays : Stays (state g old) (state g new)
