-- What files hold.
use Rattle.std.specs.Prelude.{◌⊎◌}
use Rattle.sqlite_wal.specs.Recovery.{Image}
use Rattle.streetmap_ledger.specs.State.{State}
use Rattle.streetmap_store.specs.HeldFiles.{HoldsState, HoldsOldState}

-- the files hold the tables of this state, of format 2 or of format 1
abbrev pub HoldsTables : Image → State → Type 0
HoldsTables image s = HoldsState image s ⊎ HoldsOldState image s
