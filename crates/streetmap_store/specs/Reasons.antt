-- When files are refused, and what is left of them.
use Rattle.std.specs.Prelude.{◌≡◌, ◌⊎◌, IsTrue, ⊤}
use Rattle.sqlite_disk.specs.declared.Disk as disk
use Rattle.sqlite_disk.specs.declared.Files.{Files}
use Rattle.sqlite_wal.specs.Recovery.{Image}
use Rattle.sqlite_trees.specs.Tree.{Trees}
use Rattle.sqlite_catalog.specs.Listing.{IsSound}
use Rattle.sqlite_store.specs.declared.store.FileStore.{FileStore}
use Rattle.sqlite.specs.Schema.{Schema}
use Rattle.sqlite.specs.declared.error.Error.{Error}
use Rattle.sqlite.specs.declared.error.Error.TheVariants.{SqliteFailure}
use Rattle.sqlite.specs.declared.error.ErrorCode.TheVariants.{NotADatabase, CannotOpen}
use Rattle.sqlite.specs.declared.error.ErrorCode.TheVariants.{OutOfMemory, DatabaseBusy}
use Rattle.sqlite.specs.declared.file.Leftover.{Leftover}
use Rattle.sqlite.specs.State.{State as Seen, HasCleanDisk}
use Rattle.sqlite.specs.Held.{Held}
use Rattle.sqlite.specs.Opening.{is_open_error}
use Rattle.sqlite.specs.Files.{HoldsDatabase, IsNothing, AreFoundIn, IsCleanLeft, LeavesFiles}
use Rattle.sqlite.specs.Files.{image_of, file_state}
use Rattle.streetmap_rows.specs.Failures.{IsOfStore}
use Rattle.streetmap_tables.specs.Adoption.{IsAsItWas}
use Rattle.streetmap_tables.specs.QueryResults.{ShowsFault, ShowsNothing, LosesKeys}
use Rattle.streetmap_tables.specs.Creation.{is_taken}
use Rattle.streetmap_ledger.specs.State.{State}
use Rattle.streetmap_tables.specs.Old.{RestsOld}
use Rattle.streetmap_tables.specs.Migration.{IsOld, UntouchedUnlessFormat1, MayCarry}
use Rattle.streetmap_store.specs.HeldFiles.{IsJustOpenedOn, LeavesRoom}
use Rattle.streetmap_tables.specs.declared.openings.OpenFault.{OpenFault}
use Rattle.streetmap_tables.specs.declared.openings.OpenFault.TheVariants as opened
use Rattle.streetmap_tables.specs.declared.creation.CreateFault.{CreateFault}
use Rattle.streetmap_tables.specs.declared.creation.CreateFault.TheVariants as created
use Rattle.streetmap_store.specs.declared.fault.Left.{Left}
use Rattle.streetmap_store.specs.declared.fault.Left.TheVariants as left

-- the files hold no database of SQLite, and are no new ones
abbrev pub IsForeign : Image → Type 0
IsForeign image = ¬ (((db : Trees) × HoldsDatabase image db) ⊎ IsNothing image)

-- the files are not to blame: the device failed, or memory ran out
abbrev pub OpenBlamesNoFile : OpenFault → Type 0
OpenBlamesNoFile opened.NotOurs = ⊥
OpenBlamesNoFile opened.NewFormat = ⊥
OpenBlamesNoFile opened.Damaged = ⊥
OpenBlamesNoFile (opened.Device e) = ⊤
OpenBlamesNoFile opened.Memory = ⊤

abbrev pub CreateBlamesNoFile : CreateFault → Type 0
CreateBlamesNoFile created.NotOurs = ⊥
CreateBlamesNoFile created.Taken = ⊥
CreateBlamesNoFile (created.Device e) = ⊤
CreateBlamesNoFile created.Memory = ⊤

-- an error of opening by which nothing was opened: the files cannot be opened or are in use, or
-- memory ran out
abbrev pub IsUnopened : Error → Type 0
IsUnopened e =
    (e ≡ SqliteFailure CannotOpen)
    ⊎ ((e ≡ SqliteFailure OutOfMemory) ⊎ (e ≡ SqliteFailure DatabaseBusy))

-- what is returned if nothing was opened
abbrev pub OpensNothing : OpenFault → Type 0
OpensNothing opened.NotOurs = ⊥
OpensNothing opened.NewFormat = ⊥
OpensNothing opened.Damaged = ⊥
OpensNothing (opened.Device e) = IsUnopened e
OpensNothing opened.Memory = ⊤

abbrev pub CreatesNothing : CreateFault → Type 0
CreatesNothing created.NotOurs = ⊥
CreatesNothing created.Taken = ⊥
CreatesNothing (created.Device e) = IsUnopened e
CreatesNothing created.Memory = ⊤

module _ {D : Type 0} {g : disk.Ghosts D} where
  -- a connection that was opened on the files showed this
  pub record ShowedFirst (image : Image) (P : Held (FileStore D g) → Type 0) : Type 0 where
    pub first : Held (FileStore D g)
    pub on : IsJustOpenedOn image first
    pub clean : HasCleanDisk (file_state first)
    pub showed : P first

  -- The connection holds what it held when it was opened on the files. A crash leaves no more; but
  -- of a state's tables in format 1 it may leave those in format 2.
  abbrev pub HoldsAsOpened : Image → Held (FileStore D g) → Type 0
  HoldsAsOpened image c = ShowedFirst image (λ first. IsAsItWas (file_state first) (file_state c)
      × UntouchedUnlessFormat1 (file_state first) (file_state c)
      × ((s : State) → RestsOld (file_state first) s
      → MayCarry s (file_state first) (file_state c)))

  -- what an opening that failed leaves of the files is as SQLite says: a crash leaves what it left
  -- before, or what the next opening reads as the same
  abbrev pub LeavesHeld : Image → Leftover D g → Type 0
  LeavesHeld image rest = (files : Files D) × (image_of g files ≡ image) × LeavesFiles files rest

module _ {D : Type 0} {g : disk.Ghosts D} where
  -- what is left has so far returned what was written
  abbrev pub IsCleanRest : Left (Leftover D g) (Held (FileStore D g)) → Type 0
  IsCleanRest left.Nothing = ⊤
  IsCleanRest (left.Files rest) = IsCleanLeft rest
  IsCleanRest (left.Connection c) = HasCleanDisk (file_state c)

  -- a connection was opened on the files, and its reads showed this
  abbrev pub Showed : Image → (Seen → Type 0) → Left (Leftover D g) (Held (FileStore D g)) → Type 0
  Showed image P left.Nothing = ⊥
  Showed image P (left.Files rest) = ⊥
  Showed image P (left.Connection c) = ShowedFirst image (λ (first : Held (FileStore D g)).
      P (file_state first))

  -- what is left of the files holds what they held
  abbrev pub StaysAsItWas : Image → Left (Leftover D g) (Held (FileStore D g)) → Type 0
  StaysAsItWas image left.Nothing = ⊤
  StaysAsItWas image (left.Files rest) = LeavesHeld image rest
  StaysAsItWas image (left.Connection c) = HoldsAsOpened image c

  -- what is left of the files holds what they held, though a crash may leave more
  abbrev pub HoldsStill : Image → Left (Leftover D g) (Held (FileStore D g)) → Type 0
  HoldsStill image left.Nothing = ⊤
  HoldsStill image (left.Files rest) = LeavesHeld image rest
  HoldsStill image (left.Connection c) = ShowedFirst image (λ (first : Held (FileStore D g)).
      IsAsItWas (file_state first) (file_state c))

  -- Why files are not opened, fault by fault.
  abbrev pub RefusesToOpen : Image → OpenFault → Left (Leftover D g) (Held (FileStore D g)) → Type 0
  -- They are no database; or the read of the format row found none of ours, or was refused.
  RefusesToOpen image opened.NotOurs rest = IsForeign image
      ⊎ Showed image (λ seen. ShowsFault seen opened.NotOurs ⊎ ShowsNothing seen) rest
  -- The read of the format row found a format above 2.
  RefusesToOpen image opened.NewFormat rest = Showed image (λ seen.
      ShowsFault seen opened.NewFormat) rest
  -- The format is 1, and the tables are damaged, of which no more is said here; or it is 2, and the
  -- read of the batches was refused.
  RefusesToOpen image opened.Damaged rest = Showed image (λ seen. IsOld seen ⊎ LosesKeys seen) rest
  -- The error is one of opening, or one by which the store failed; or the format is 1, and a
  -- statement that makes the new tables was refused with it.
  RefusesToOpen image (opened.Device e) rest = IsTrue (is_open_error e)
      ⊎ (IsOfStore e ⊎ Showed image IsOld rest)
  -- Memory ran out, which may happen with any files.
  RefusesToOpen image opened.Memory rest = ⊤

  -- no connection was opened: this is an error of opening, files that it calls no database are
  -- none, and they hold what they held
  pub record FailsToConnect (image : Image) (e : Error)
      (rest : Left (Leftover D g) (Held (FileStore D g))) : Type 0 where
    pub named : IsTrue (is_open_error e)
    pub foreign : e ≡ SqliteFailure NotADatabase → IsForeign image
    pub stays : StaysAsItWas image rest

-- Why no tables are made in files: they are no database; whatever database they are read as uses
-- one of the four names; a call of SQLite failed, or memory ran out.
abbrev pub RefusesToCreate : Image → CreateFault → Type 0
RefusesToCreate image created.NotOurs = IsForeign image
RefusesToCreate image created.Taken = (db : Trees) × (schema : Schema) × AreFoundIn image db
    × IsSound schema db × IsTrue (is_taken schema)
RefusesToCreate image (created.Device e) = ⊤
RefusesToCreate image created.Memory = ⊤

-- files that are new, or that an opening left half made, leave room for our tables
abbrev pub NewFilesLeaveRoom : Type 0
NewFilesLeaveRoom = (image : Image) → IsNothing image → LeavesRoom image
