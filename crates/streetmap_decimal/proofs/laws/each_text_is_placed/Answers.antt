use Rattle.streetmap_decimal.proofs.Placed.{placed_is}
use Rattle.streetmap_decimal.proofs.laws.each_text_is_placed.Goals as goal

pub returns : goal.returns
returns c = placed_is
