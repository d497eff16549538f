-- The error of the store that a `Stop` reports.
use Rattle.std.proofs.Common.{sym, subst}
use Rattle.sqlite.specs.State.{State as Seen}
use Rattle.sqlite.specs.declared.error.Error.{Error}
use Rattle.streetmap_rows.specs.Failures.{IsOfStore}
use Rattle.streetmap_rows.specs.CallEnds.{IsCause, Settles}
use Rattle.streetmap_rows.specs.declared.failures.Stop.{Stop}
use Rattle.streetmap_rows.specs.declared.failures.Stop.TheVariants.{Memory, Closed}
use Rattle.streetmap_rows.specs.declared.failures.Shut.{Shut}
use Rattle.streetmap_rows.specs.declared.failures.Shut.TheVariants.{Device, Damaged}
use Rattle.streetmap_tables.specs.BatchEffects.{IsByStoreError}

pub of_cause : (e : Error) (cause : Shut) → IsCause e cause → IsByStoreError (Closed cause)
of_cause e (Device x) h = subst IsOfStore (sym h.0) h.1
of_cause e Damaged h = tt

pub of_stop : (e : Error) (old new : Seen) (stop : Stop) → Settles e old new stop → IsByStoreError stop
of_stop e old new Memory h = tt
of_stop e old new (Closed (Device x)) h = h.0
of_stop e old new (Closed Damaged) h = tt
