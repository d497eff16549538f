-- What a contract sees of the parameters of a request for changes.
use Rattle.std.specs.Prelude.{Result, Ok, Err}
use Rattle.streetmap_bodies.specs.declared.request_fault.RequestFault.{RequestFault}
use Rattle.streetmap_routes.specs.declared.changes.Parameters.{Parameters}
use Rattle.streetmap_routes.specs.ChangesQuery.{ChangesValue}

-- the parameters as a value
abbrev pub changes_value : Parameters → ChangesValue
changes_value p = record { after = p.after; limit = p.limit }

-- what was read, as a value
abbrev pub changes_read : Result Parameters RequestFault → Result ChangesValue RequestFault
changes_read (Ok p) = Ok (changes_value p)
changes_read (Err fault) = Err fault
