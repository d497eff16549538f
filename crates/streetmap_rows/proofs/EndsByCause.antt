-- How a call ends by the cause that its error names.
use Rattle.std.proofs.Common.{inl, sym, subst}
use Rattle.sqlite.specs.declared.error.Error.{Error}
use Rattle.sqlite.specs.State.{State as Seen}
use Rattle.streetmap_rows.specs.Failures.{IsOfStore}
use Rattle.streetmap_rows.specs.CallEnds.{IsCause, Settles}
use Rattle.streetmap_rows.specs.declared.failures.Shut.{Shut}
use Rattle.streetmap_rows.specs.declared.failures.Shut.TheVariants.{Device, Damaged}
use Rattle.streetmap_rows.specs.declared.failures.Stop.TheVariants.{Closed}

pub closes : (error : Error) (old new : Seen) (shut : Shut) → IsCause error shut → Settles error old new (Closed shut)
closes error old new (Device e) h = (subst IsOfStore (sym h.0) h.1, inl h.0)
closes error old new Damaged h = h
