use Rattle.std.proofs.Common.{refl, arith}
use Rattle.streetmap_journal.proofs.Reports.{still_reported}
use Rattle.streetmap_journal.proofs.journal.Journal.settle.Goals as goal

pub returns-else-is_ok-clause-reported : goal.returns-else-is_ok-clause-reported
returns-else-is_ok-clause-reported g c = λ behind reported.
    let old = c.args.self.now in
    still_reported old.is_behind old.is_behind old.next old.next _ _ _ _ behind refl (omega arith)
    c.sync.ensures.reported reported
