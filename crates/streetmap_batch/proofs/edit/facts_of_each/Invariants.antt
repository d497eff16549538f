use Rattle.std.proofs.Common.{All, take}
use Rattle.streetmap_batch.specs.BatchFacts.{IsSoundEdit}
use Rattle.streetmap_batch.specs.BatchView.{edit_value}
use Rattle.streetmap_batch.proofs.edit.facts_of_each.Given as goal

abbrev pub invariant-loop-edit : goal.invariant-loop-edit
invariant-loop-edit l = All (λ e. IsSoundEdit (edit_value e)) (take l.edit-index l.edits)
