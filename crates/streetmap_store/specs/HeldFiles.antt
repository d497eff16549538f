-- Files that hold tables.
use Rattle.std.specs.Prelude.{Some}
use Rattle.sqlite_disk.specs.declared.Disk as disk
use Rattle.sqlite_wal.specs.Recovery.{Image}
use Rattle.sqlite_trees.specs.Tree.{Trees}
use Rattle.sqlite_catalog.specs.Listing.{IsSound}
use Rattle.sqlite_store.specs.declared.store.FileStore.{FileStore}
use Rattle.sqlite.specs.Schema.{Schema}
use Rattle.sqlite.specs.State.{HasCleanDisk}
use Rattle.sqlite.specs.Held.{Held, IsNew}
use Rattle.sqlite.specs.Start.{FindsIn}
use Rattle.sqlite.specs.Files.{HoldsDatabase, AreFoundIn, IsOpened, file_state}
use Rattle.streetmap_ledger.specs.State.{State}
use Rattle.streetmap_rows.specs.KeptStates.{AreTreesOf}
use Rattle.streetmap_tables.specs.Creation.{HasRoom}
use Rattle.streetmap_tables.specs.Old.{KeepsOld}

-- a connection that was just opened on files: while they return what was written, it is open and
-- shows the database that they held
pub record IsJustOpenedOn {D : Type 0} {g : disk.Ghosts D} (image : Image)
    (c : Held (FileStore D g)) : Type 0 where
  pub fresh : IsNew c
  pub opened : HasCleanDisk (file_state c) → IsOpened c
  pub found : HasCleanDisk (file_state c) → FindsIn image (file_state c)

-- the files hold a database with the tables of a state
abbrev pub HoldsState : Image → State → Type 0
HoldsState image s = (db : Trees) × HoldsDatabase image db × AreTreesOf db (Some s)

-- the files hold a database with the tables of a state in format 1
abbrev pub HoldsOldState : Image → State → Type 0
HoldsOldState image s = (db : Trees) × HoldsDatabase image db
    × ((schema : Schema) × KeepsOld s (record { schema = schema; trees = db }))

-- the tables of whatever database the files are read as, if any, leave room for ours
abbrev pub LeavesRoom : Image → Type 0
LeavesRoom image = (db : Trees) (schema : Schema) → AreFoundIn image db → IsSound schema db
    → HasRoom schema
