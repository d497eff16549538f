use Rattle.streetmap_tags.proofs.NoneLeftOut.{changes_go_on}
use Rattle.streetmap_tags.proofs.batches.changes_go_on.Goals as goal

pub returns : goal.returns
returns c = changes_go_on
