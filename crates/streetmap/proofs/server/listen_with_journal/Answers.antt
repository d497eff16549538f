use Rattle.std.proofs.Common.{◌≡◌, true, false, refl}
use Rattle.streetmap.proofs.KeptByReads.{kept_if, not_done}
use Rattle.streetmap.proofs.server.listen_with_journal.Goals as goal

pub returns-in_err-journal-clause-kept : goal.returns-in_err-journal-clause-kept
returns-in_err-journal-clause-kept g c =
    let r = c.from_residual-in_err-journal in
    kept_if (not_done r.result r.ensures.0) c.in_err-journal.ensures.kept

pub returns-in_err-listener-clause-kept : goal.returns-in_err-listener-clause-kept
returns-in_err-listener-clause-kept g c =
    let r = c.from_residual-in_err-listener in
    kept_if (not_done r.result r.ensures.0) c.in_ok-journal.ensures.kept

pub returns-in_err-report_journal-clause-kept : goal.returns-in_err-report_journal-clause-kept
returns-in_err-report_journal-clause-kept g c =
    let r = c.from_residual-in_err-report_journal in
    kept_if (not_done r.result r.ensures.0) c.in_ok-journal.ensures.kept

pub returns-clause-kept : goal.returns-clause-kept
returns-clause-kept g c = kept_if (λ done. refl) c.in_ok-journal.ensures.kept

pub returns-clause-journal : goal.returns-clause-journal
returns-clause-journal g c clean s represented =
    (c.in_ok-journal.ensures.reported, λ reports. absurd (let bad : false ≡ true = reports c.in_ok-journal.journal.writer in cc))
