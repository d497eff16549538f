-- Tables that are opened again after a crash.
use Rattle.std.specs.Prelude.{◌≡◌, ◌⊎◌, None, IsTrue}
use Rattle.sqlite.specs.Effect.{Database, IsDatabase}
use Rattle.sqlite.specs.State.{State as Seen}
use Rattle.streetmap_ledger.specs.State.{State}
use Rattle.streetmap_rows.specs.KeptStates.{Rests}

-- a crash may leave this database
abbrev pub LeavesDatabase : Seen → Database → Type 0
LeavesDatabase seen db = seen.may_leave db.trees × IsDatabase db

-- a connection that was just opened over a database
pub record IsJustOpened (seen : Seen) : Type 0 where
  pub live : IsTrue seen.is_open
  pub settled : seen.now ≡ seen.committed
  pub unlimited : seen.step_limit ≡ None
  pub sound : IsDatabase seen.now

-- the connection rests at a state of these, and at no other; that it rests at one is said as far as
-- it can be without naming it
pub record OpensWithin (P : State → Type 0) (seen : Seen) : Type 0 where
  pub only : (t : State) → Rests seen t → P t
  pub some : ((t : State) → Rests seen t → ⊥) → ⊥

-- it opens as this state
abbrev pub OpensAs : State → Seen → Type 0
OpensAs s = OpensWithin (λ t. t ≡ s)

-- it opens as one of two states
abbrev pub OpensAsEither : State → State → Seen → Type 0
OpensAsEither s t = OpensWithin (λ u. (u ≡ s) ⊎ (u ≡ t))
