use Rattle.streetmap_decimal.proofs.OffGrid.{text_off_grid}
use Rattle.streetmap_decimal.proofs.laws.refused_text_is_off_grid.Goals as goal

pub returns : goal.returns
returns c = text_off_grid
