use Rattle.std.proofs.Common.{refl}
use Rattle.streetmap.proofs.KeptByReads.{kept_if, kept_then, not_done}
use Rattle.streetmap.proofs.server.prepare.Goals as goal

pub returns-in_err-warm_if-clause-kept : goal.returns-in_err-warm_if-clause-kept
returns-in_err-warm_if-clause-kept g c =
    let r = c.from_residual in
    kept_if (not_done r.result r.ensures.0) c.in_err-warm_if.ensures

pub returns-in_err-begun-clause-kept : goal.returns-in_err-begun-clause-kept
returns-in_err-begun-clause-kept g c =
    let r = c.from_residual-in_err-begun in
    kept_if (not_done r.result r.ensures.0) (kept_then refl c.in_ok-warm_if.ensures c.in_err-begun.ensures.kept)

pub returns-clause-kept : goal.returns-clause-kept
returns-clause-kept g c = kept_if (λ done. refl) (kept_then refl c.in_ok-warm_if.ensures c.in_ok-begun.ensures.kept)

pub returns-clause-represents : goal.returns-clause-represents
returns-clause-represents g c done clean s represented =
    let begun = c.in_ok-begun.ensures in
    let there = c.in_ok-warm_if.ensures.stays refl (begun.kept.began_clean clean) s represented in
    (begun.kept.stays refl clean s there, begun.journal clean s there)
