-- A server over a store that can fail.
use Rattle.std.specs.Prelude.{◌≡◌, ◌⊎◌}
use Rattle.streetmap_ledger.specs.State.{State}

-- a server: it serves a state; or its store failed at a request, and has kept the state before that
-- request or the state after it
pub data Server : Type 0 where
  serving : State → Server
  failed : (before after : State) → Server

-- the state that it serves, or served last
abbrev pub state_of : Server → State
state_of (serving s) = s
state_of (failed before after) = before

-- its store has kept this state
abbrev pub HasKept : Server → State → Type 0
HasKept (serving s) t = t ≡ s
HasKept (failed before after) t = (t ≡ before) ⊎ (t ≡ after)
