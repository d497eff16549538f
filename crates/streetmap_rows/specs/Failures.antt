-- Why a statement that no rule forbids may fail.
use Rattle.std.specs.Prelude.{◌≡◌, Bool, true, false, IsTrue}
use Rattle.sqlite_disk.specs.Disk.{MoreFaults}
use Rattle.sqlite.specs.State.{State as Seen}
use Rattle.sqlite.specs.declared.error.Error.{Error}
use Rattle.sqlite.specs.declared.error.Error.TheVariants.{SqliteFailure}
use Rattle.sqlite.specs.declared.error.ErrorCode.TheVariants.{NoRowid, OutOfMemory}
use Rattle.sqlite.specs.declared.error.ErrorCode.TheVariants.{SystemIoFailure, DatabaseCorrupt}
use Rattle.sqlite.specs.declared.error.ErrorCode.TheVariants.{DiskFull, Closed, TooBig}

-- no rowid is left, or the store failed or had no room or memory
abbrev pub is_of_store : Error → Bool
is_of_store (SqliteFailure NoRowid) = true
is_of_store (SqliteFailure OutOfMemory) = true
is_of_store (SqliteFailure SystemIoFailure) = true
is_of_store (SqliteFailure DatabaseCorrupt) = true
is_of_store (SqliteFailure DiskFull) = true
is_of_store (SqliteFailure Closed) = true
is_of_store (SqliteFailure TooBig) = true
is_of_store _ = false

abbrev pub IsOfStore : Error → Type 0
IsOfStore e = IsTrue (is_of_store e)

-- memory ran out
abbrev pub is_memory : Error → Bool
is_memory (SqliteFailure OutOfMemory) = true
is_memory _ = false

abbrev pub IsMemory : Error → Type 0
IsMemory e = e ≡ SqliteFailure OutOfMemory

-- it reports that the disk failed or is full, or that the connection is closed
abbrev pub is_disk_error : Error → Bool
is_disk_error (SqliteFailure SystemIoFailure) = true
is_disk_error (SqliteFailure DatabaseCorrupt) = true
is_disk_error (SqliteFailure DiskFull) = true
is_disk_error (SqliteFailure Closed) = true
is_disk_error _ = false

-- it reports nothing of the disk
abbrev pub IsNotDiskError : Error → Type 0
IsNotDiskError e = is_disk_error e ≡ false

-- if the connection was open, an error that reports a failure of the disk has its cause in a fault
-- that the disk has met since
abbrev pub HasReason : Seen → Seen → Error → Type 0
HasReason old new e = IsTrue old.is_open → IsTrue (is_disk_error e)
    → MoreFaults old.faults new.faults
