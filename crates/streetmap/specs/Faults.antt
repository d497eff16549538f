-- What the program ends with if a file, a text or a stream fails.
use Rattle.std.specs.Prelude.{ℕ, Option, None, Some, Result, Ok, Err}
use Rattle.std.specs.declared.io.ErrorKind.{ErrorKind}
use Rattle.std.specs.declared.io.ErrorKind.TheVariants as kinds
use Rattle.std.specs.IoError.{error_kind}
use Rattle.sqlite.specs.declared.error.Error.{Error as StoreError}
use Rattle.sqlite.specs.declared.error.Error.TheVariants as errors
use Rattle.sqlite.specs.declared.error.ErrorCode.{ErrorCode}
use Rattle.sqlite.specs.declared.error.ErrorCode.TheVariants as codes
use Rattle.streetmap_ledger.specs.declared.reply.Fault.{Fault as KeeperFault}
use Rattle.streetmap_ledger.specs.declared.reply.Fault.TheVariants as keeper
use Rattle.streetmap_journal.specs.declared.starts.StartFault.{StartFault}
use Rattle.streetmap_journal.specs.declared.starts.StartFault.TheVariants as starting
use Rattle.streetmap_tables.specs.declared.creation.CreateFault.{CreateFault}
use Rattle.streetmap_tables.specs.declared.creation.CreateFault.TheVariants as creation
use Rattle.streetmap_tables.specs.declared.openings.OpenFault.{OpenFault}
use Rattle.streetmap_tables.specs.declared.openings.OpenFault.TheVariants as opening
use Rattle.streetmap_rows.specs.declared.failures.Stop.{Stop}
use Rattle.streetmap_rows.specs.declared.failures.Stop.TheVariants as stops
use Rattle.streetmap_rows.specs.declared.failures.Shut.TheVariants as shuts
use Rattle.streetmap_web.specs.declared.turns.End.{End}
use Rattle.streetmap_web.specs.declared.turns.End.TheVariants as stream
use Rattle.streetmap_replay.specs.declared.fault.ReplayFault.{ReplayFault}
use Rattle.streetmap_replay.specs.declared.fault.ReplayFault.TheVariants as replay
use Rattle.streetmap_replay.specs.declared.follower.Followed.{Followed}
use Rattle.streetmap_replay.specs.declared.follow_fault.FollowFault.{FollowFault}
use Rattle.streetmap_faults.specs.declared.fault.ProgramFault.{ProgramFault}
use Rattle.streetmap_faults.specs.declared.fault.ProgramFault.TheVariants.{Follow}
use Rattle.streetmap_faults.specs.declared.fault.ProgramFault.TheVariants.{NotOurs, NewFormat}
use Rattle.streetmap_faults.specs.declared.fault.ProgramFault.TheVariants.{Taken}
use Rattle.streetmap_faults.specs.declared.fault.ProgramFault.TheVariants.{NoText, ReadFailed}
use Rattle.streetmap_faults.specs.declared.fault.ProgramFault.TheVariants.{WriteFailed, Damaged}
use Rattle.streetmap_faults.specs.declared.fault.ProgramFault.TheVariants.{Device, Memory}
use Rattle.streetmap_faults.specs.declared.fault.ProgramFault.TheVariants.{InUse, NoFolder}
use Rattle.streetmap_faults.specs.declared.fault.ProgramFault.TheVariants.{NoRight, NotOpened}
use Rattle.streetmap_faults.specs.declared.fault.ProgramFault.TheVariants.{DamagedDatabase}
use Rattle.streetmap_faults.specs.declared.fault.ProgramFault.TheVariants.{PortTaken, NotBound}
use Rattle.streetmap_faults.specs.declared.fault.ProgramFault.TheVariants.{NoRightToPort}
use Rattle.streetmap_faults.specs.declared.fault.ProgramFault.TheVariants.{NoJournal, JournalAhead}
use Rattle.streetmap_faults.specs.declared.fault.ProgramFault.TheVariants.{NotItsJournal}
use Rattle.streetmap_faults.specs.declared.fault.ProgramFault.TheVariants.{NotReplayed}

-- if a store is not opened
abbrev pub fault_of_code : ErrorCode → ProgramFault
fault_of_code codes.DatabaseBusy = InUse
fault_of_code codes.DatabaseCorrupt = DamagedDatabase
fault_of_code _ = NotOpened

abbrev pub fault_of_store : StoreError → ProgramFault
fault_of_store (errors.SqliteFailure code) = fault_of_code code
fault_of_store _ = NotOpened

-- if a file is not opened, by the error of opening it or its folder
abbrev pub fault_of_file : ErrorKind → ProgramFault
fault_of_file kinds.NotFound = NoFolder
fault_of_file kinds.NotADirectory = NoFolder
fault_of_file kinds.PermissionDenied = NoRight
fault_of_file kinds.ReadOnlyFilesystem = NoRight
fault_of_file _ = NotOpened

-- if nothing listens at a port
abbrev pub fault_of_port : ℕ → ErrorKind → ProgramFault
fault_of_port port kinds.AddrInUse = PortTaken port
fault_of_port port kinds.PermissionDenied = NoRightToPort port
fault_of_port port _ = NotBound port

-- if no file is made
abbrev pub fault_of_create : CreateFault → ProgramFault
fault_of_create creation.NotOurs = NotOurs
fault_of_create creation.Taken = Taken
fault_of_create (creation.Device error) = fault_of_store error
fault_of_create creation.Memory = Memory

-- if a file is not opened
abbrev pub fault_of_open : OpenFault → ProgramFault
fault_of_open opening.NotOurs = NotOurs
fault_of_open opening.NewFormat = NewFormat
fault_of_open opening.Damaged = Damaged
fault_of_open (opening.Device error) = fault_of_store error
fault_of_open opening.Memory = Memory

-- if a keeper does not answer
abbrev pub fault_of_keeper : KeeperFault → ProgramFault
fault_of_keeper keeper.Memory = Memory
fault_of_keeper keeper.Damaged = Damaged
fault_of_keeper keeper.Device = Device
fault_of_keeper keeper.Reopen = Device

-- if a journal cannot be opened
abbrev pub fault_of_journal : ErrorKind → ProgramFault
fault_of_journal kinds.OutOfMemory = Memory
fault_of_journal kind = NoJournal

-- if a journal is not begun
abbrev pub fault_of_start : StartFault → ProgramFault
fault_of_start starting.Ahead = JournalAhead
fault_of_start (starting.Other serial) = NotItsJournal serial
fault_of_start (starting.NotOpened error) = fault_of_journal (error_kind error)
fault_of_start starting.NotRead = ReadFailed
fault_of_start (starting.Stopped fault) = fault_of_keeper fault

-- if a replay does not end well
abbrev pub fault_of_replay : ReplayFault → ProgramFault
fault_of_replay (replay.Kept fault) = fault_of_keeper fault
fault_of_replay (replay.Fresh fault) = fault_of_keeper fault
fault_of_replay replay.Memory = Memory
fault_of_replay (replay.Batch serial) = NotReplayed (Some serial)
fault_of_replay (replay.Collection name) = NotReplayed None

-- if the rows of a file are not a state's
abbrev pub fault_of_check : Stop → ProgramFault
fault_of_check (stops.Closed shuts.Damaged) = Damaged
fault_of_check (stops.Closed (shuts.Device error)) = Device
fault_of_check stops.Memory = Memory

-- after a stream of requests
abbrev pub end_of_stream : End → Result (Unit {0}) ProgramFault
end_of_stream stream.Ended = Ok tt
end_of_stream stream.Truncated = Ok tt
end_of_stream stream.ReadFailed = Err ReadFailed
end_of_stream stream.WriteFailed = Err WriteFailed
end_of_stream stream.FlushFailed = Err WriteFailed

-- if a text cannot be read
abbrev pub fault_of_text : ErrorKind → ProgramFault
fault_of_text kinds.NotFound = NoText
fault_of_text kinds.OutOfMemory = Memory
fault_of_text _ = ReadFailed

-- after lines of batches were followed
abbrev pub end_of_lines : ℕ → Option FollowFault → Result (Unit {0}) ProgramFault
end_of_lines count None = Ok tt
end_of_lines count (Some fault) = Err (Follow count fault)

abbrev pub end_of_followed : Followed → Result (Unit {0}) ProgramFault
end_of_followed it = end_of_lines it.count it.fault
