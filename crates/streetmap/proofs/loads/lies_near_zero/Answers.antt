use Rattle.streetmap.proofs.KeptByReads.{kept_read}
use Rattle.streetmap.proofs.loads.lies_near_zero.Goals as goal

pub returns-in-Ok-Some : goal.returns-in-Ok-Some
returns-in-Ok-Some g c = kept_read _ c.collection.ensures (λ never. absurd never)

pub returns-in_default : goal.returns-in_default
returns-in_default g c = kept_read _ c.collection.ensures (λ never. absurd never)

pub returns-in_default-2 : goal.returns-in_default-2
returns-in_default-2 g c = kept_read _ c.collection.ensures (λ never. absurd never)
