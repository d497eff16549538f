use Rattle.streetmap_grid.proofs.LawProofs.{closed_rings_are_even}
use Rattle.streetmap_grid.proofs.laws.closed_rings_are_even.Goals as goal

pub returns : goal.returns
returns c = closed_rings_are_even
