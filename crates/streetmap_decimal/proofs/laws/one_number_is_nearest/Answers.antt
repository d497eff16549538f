use Rattle.streetmap_decimal.proofs.Rounded.{nearest_once}
use Rattle.streetmap_decimal.proofs.laws.one_number_is_nearest.Goals as goal

pub returns : goal.returns
returns c = nearest_once
