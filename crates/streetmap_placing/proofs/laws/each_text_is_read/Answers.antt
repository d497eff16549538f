use Rattle.streetmap_placing.proofs.Valued.{read_is}
use Rattle.streetmap_placing.proofs.laws.each_text_is_read.Goals as goal

pub returns : goal.returns
returns c = read_is
