use Rattle.streetmap_query.proofs.BoxTextFacts.{box_takes, box_only}
use Rattle.streetmap_query.proofs.laws.box_texts_are_read.Goals as goal

pub returns : goal.returns
returns c = λ text b. (box_takes text b, box_only text b)
