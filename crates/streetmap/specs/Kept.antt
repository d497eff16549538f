-- What a command that only reads does to the keeper of a file.
use Rattle.std.specs.Prelude.{Some}
use Rattle.streetmap_ledger.specs.State.{State}
use Rattle.streetmap_ledger.specs.Model.{Model}
use Rattle.streetmap_ledger.specs.Keep.{LeavesOnly}

-- A keeper was only read: the rest of its store is kept, and a crash leaves the state that it
-- represented. If all was done, it represents that state still.
pub record IsKept {K : Type 0} (model : Model K) (old new : K) (done : Type 0) : Type 0 where
  pub preserved : model.preserves old new
  pub began_clean : model.is_clean new → model.is_clean old
  pub leaves : model.is_clean new → (s : State) → model.represents old s
      → LeavesOnly (model.may_leave new) (Some s)
  pub stays : done → model.is_clean new → (s : State) → model.represents old s
      → model.represents new s
