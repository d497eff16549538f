use Rattle.std.proofs.Common.{refl}
use Rattle.streetmap.proofs.KeptByReads.{kept_itself, kept_read}
use Rattle.streetmap.proofs.loads.times_of.Goals as goal

pub returns-then-requested : goal.returns-then-requested
returns-then-requested g c = kept_itself _ _

pub returns-in-Ok : goal.returns-in-Ok
returns-in-Ok g c = kept_read _ c.in-Ok.ensures (λ done. (_, refl))

pub returns-in-Err : goal.returns-in-Err
returns-in-Err g c = kept_read _ c.in-Err.ensures (λ done. absurd cc)
