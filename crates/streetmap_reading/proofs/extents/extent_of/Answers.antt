use Rattle.std.proofs.Common.{subst}
use Rattle.streetmap_rows.proofs.ReadsInTurn.{reads_on, reads_failed, reads_both}
use Rattle.streetmap_reading.specs.PassResults.{IsExtentIfIn}
use Rattle.streetmap_reading.proofs.extents.extent_of.Goals as goal

pub returns-in_err-most : goal.returns-in_err-most
returns-in_err-most g c = reads_failed c.in_err-most.ensures c.from_residual.ensures.1

pub returns-in_err-few : goal.returns-in_err-few
returns-in_err-few g c = reads_failed (reads_both c.in_ok-most.ensures c.in_err-few.ensures) c.from_residual-in_err-few.ensures.1

pub returns-in-Some : goal.returns-in-Some
returns-in-Some g c =
    reads_on (reads_both c.in_ok-most.ensures c.in_ok-few.ensures) (λ clean shows s limit keeps.
    let found = shows s limit keeps in
    (subst (λ o. IsExtentIfIn c.args.collection.now s o) c.in-Some.is found.0, found.1))
