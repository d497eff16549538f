-- Errors of the store that have a reason.
use Rattle.std.specs.Prelude.{◌≡◌, ◌⊎◌}
use Rattle.sqlite.specs.State.{State as Seen}
use Rattle.streetmap_rows.specs.Failures.{HasReason}
use Rattle.streetmap_rows.specs.declared.fault.ReadFault.{ReadFault}
use Rattle.streetmap_rows.specs.declared.fault.ReadFault.TheVariants as read
use Rattle.streetmap_tables.specs.declared.openings.OpenFault.{OpenFault}
use Rattle.streetmap_tables.specs.declared.openings.OpenFault.TheVariants as opening

-- it comes from no statement
abbrev pub IsOwn : ReadFault → Type 0
IsOwn read.Memory = Unit {0}
IsOwn (read.Store e) = ⊥
IsOwn read.Unread = Unit {0}

-- the error of a statement that is passed on arose between these two for a reason
abbrev pub HasReasonIn : Seen → Seen → ReadFault → Type 0
HasReasonIn old new read.Memory = Unit {0}
HasReasonIn old new (read.Store e) = HasReason old new e
HasReasonIn old new read.Unread = Unit {0}

-- the error that is returned is the one that was met, or arose since
abbrev pub IsReturnedFor : Seen → Seen → ReadFault → OpenFault → Type 0
IsReturnedFor old new fault opening.NotOurs = Unit {0}
IsReturnedFor old new fault opening.NewFormat = Unit {0}
IsReturnedFor old new fault opening.Damaged = Unit {0}
IsReturnedFor old new fault (opening.Device e) = (fault ≡ read.Store e) ⊎ HasReason old new e
IsReturnedFor old new fault opening.Memory = Unit {0}

-- the error of the store that is returned arose between these two for a reason
abbrev pub OpensFor : Seen → Seen → OpenFault → Type 0
OpensFor old new opening.NotOurs = Unit {0}
OpensFor old new opening.NewFormat = Unit {0}
OpensFor old new opening.Damaged = Unit {0}
OpensFor old new (opening.Device e) = HasReason old new e
OpensFor old new opening.Memory = Unit {0}
