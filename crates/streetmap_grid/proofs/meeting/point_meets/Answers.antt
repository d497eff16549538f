use Rattle.std.proofs.Common.{arith, refl}
use Rattle.std.proofs.lemmas.Int.{ints}
use Rattle.streetmap_grid.proofs.meeting.point_meets.Goals as goal

pub returns : goal.returns
returns c = (λ t. omega (arith, ints), λ m. refl)
