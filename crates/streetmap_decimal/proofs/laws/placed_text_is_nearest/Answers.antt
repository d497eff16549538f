use Rattle.streetmap_decimal.proofs.Exactly.{text_nearest}
use Rattle.streetmap_decimal.proofs.laws.placed_text_is_nearest.Goals as goal

pub returns : goal.returns
returns c = text_nearest
