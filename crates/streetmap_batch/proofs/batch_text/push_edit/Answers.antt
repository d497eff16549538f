use Rattle.std.proofs.Common.{rules}
use Rattle.streetmap_batch.specs.BatchText.{edit_data}
use Rattle.streetmap_batch.proofs.batch_text.push_edit.Goals as goal

pub returns-in-Replace : goal.returns-in-Replace
unfolding edit_data
returns-in-Replace c = search rules
