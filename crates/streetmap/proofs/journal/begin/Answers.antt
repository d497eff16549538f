use Rattle.std.proofs.Common.{refl}
use Rattle.streetmap.proofs.KeptByReads.{kept_reads}
use Rattle.streetmap.proofs.journal.begin.Goals as goal

pub returns-in-Ok-clause-kept : goal.returns-in-Ok-clause-kept
returns-in-Ok-clause-kept g c = kept_reads _ c.in-Ok.ensures.reads (λ done. refl)

pub returns-in-Err-clause-kept : goal.returns-in-Err-clause-kept
returns-in-Err-clause-kept g c = kept_reads _ c.in-Err.ensures.reads (λ done. absurd cc)
