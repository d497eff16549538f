use Rattle.std.proofs.Common.{rules}
use Rattle.streetmap_query.specs.Box.{box_of}
use Rattle.streetmap_query.proofs.box_texts.box_at.Goals as goal

pub returns : goal.returns
unfolding box_of
returns c = search rules
