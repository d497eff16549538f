use Rattle.streetmap_placing.proofs.Once.{read_once}
use Rattle.streetmap_placing.proofs.laws.text_is_read_once.Goals as goal

pub returns : goal.returns
returns c = read_once
