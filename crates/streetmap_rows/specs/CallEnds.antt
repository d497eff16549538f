-- How a call that met an error ends.
use Rattle.std.specs.Prelude.{◌≡◌, ◌⊎◌}
use Rattle.sqlite.specs.declared.error.Error.{Error}
use Rattle.sqlite.specs.State.{State as Seen, IsUnchanged}
use Rattle.streetmap_rows.specs.Failures.{IsOfStore, IsMemory, HasReason}
use Rattle.streetmap_rows.specs.declared.failures.Stop.{Stop}
use Rattle.streetmap_rows.specs.declared.failures.Stop.TheVariants.{Memory, Closed}
use Rattle.streetmap_rows.specs.declared.failures.Shut.{Shut}
use Rattle.streetmap_rows.specs.declared.failures.Shut.TheVariants.{Device, Damaged}

-- the cause that an error closes a keeper for: itself, if it is of the store, and otherwise damage
abbrev pub IsCause : Error → Shut → Type 0
IsCause error (Device e) = (e ≡ error) × IsOfStore error
IsCause error Damaged = ¬ (IsOfStore error)

-- an error of the store that a keeper must be closed for arose between these two for a reason
abbrev pub StopsFor : Seen → Seen → Stop → Type 0
StopsFor old new Memory = Unit {0}
StopsFor old new (Closed (Device e)) = HasReason old new e
StopsFor old new (Closed Damaged) = Unit {0}

-- Out of memory, if the connection is open and as it was; by an error of the store, which is the
-- one that was met or, after memory ran out, another, which has its reason; and otherwise by
-- damage.
abbrev pub Settles : Error → Seen → Seen → Stop → Type 0
Settles error old new Memory = IsMemory error × IsUnchanged old new
Settles error old new (Closed (Device e)) =
    IsOfStore e × ((e ≡ error) ⊎ (IsMemory error × HasReason old new e))
Settles error old new (Closed Damaged) = ¬ (IsOfStore error)
