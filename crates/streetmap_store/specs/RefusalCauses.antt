-- What refusals come from.
use Rattle.sqlite.specs.declared.error.Error.{Error}
use Rattle.sqlite.specs.declared.error.Error.TheVariants.{SqliteFailure}
use Rattle.sqlite.specs.declared.error.ErrorCode.TheVariants.{NotADatabase, OutOfMemory}
use Rattle.streetmap_tables.specs.declared.openings.OpenFault.{OpenFault}
use Rattle.streetmap_tables.specs.declared.openings.OpenFault.TheVariants as opened
use Rattle.streetmap_tables.specs.declared.creation.CreateFault.{CreateFault}
use Rattle.streetmap_tables.specs.declared.creation.CreateFault.TheVariants as created

-- files on which no connection was opened: no database, out of memory, or a failure of the device
abbrev pub refused_to_open : Error → OpenFault
refused_to_open (SqliteFailure NotADatabase) = opened.NotOurs
refused_to_open (SqliteFailure OutOfMemory) = opened.Memory
refused_to_open e = opened.Device e

abbrev pub refused_to_create : Error → CreateFault
refused_to_create (SqliteFailure NotADatabase) = created.NotOurs
refused_to_create (SqliteFailure OutOfMemory) = created.Memory
refused_to_create e = created.Device e
