use Rattle.std.proofs.Common.{ap}
use Rattle.streetmap_loading.specs.Options.{LoadValue}
use Rattle.streetmap.proofs.KeptByReads.{kept_itself}
use Rattle.streetmap.proofs.loads.skipping.Goals as goal

pub returns-then-not-requested-2-clause-kept : goal.returns-then-not-requested-2-clause-kept
returns-then-not-requested-2-clause-kept g c = kept_itself _ _

pub returns-in-Ok-clause-kept : goal.returns-in-Ok-clause-kept
returns-in-Ok-clause-kept g c = c.in-Ok.ensures

pub returns-in-Ok-clause-each : goal.returns-in-Ok-clause-each
returns-in-Ok-clause-each g c = ap (λ (l : LoadValue). l.each) c.skipping.ensures

pub returns-in-Ok-clause-key : goal.returns-in-Ok-clause-key
returns-in-Ok-clause-key g c = ap (λ (l : LoadValue). l.key) c.skipping.ensures

pub returns-in-Err-clause-kept : goal.returns-in-Err-clause-kept
returns-in-Err-clause-kept g c = c.in-Err.ensures
