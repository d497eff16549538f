use Rattle.std.proofs.Common.{◌≡◌, ◌++◌, drop, false, string_bytes}
use Rattle.serde_json.specs.Written.{items_text}
use Rattle.streetmap_batch.specs.BatchText.{edits_data}
use Rattle.streetmap_batch.specs.BatchView.{edit_values}
use Rattle.streetmap_batch.proofs.batch_text.push_edits.Given as goal

-- what is written and what is left make up the whole
abbrev pub invariant-loop-edit : goal.invariant-loop-edit
invariant-loop-edit l =
    string_bytes l.out ++ items_text l.later (edits_data (edit_values (drop l.edit-index l.edits)))
    ≡ string_bytes l.fn.out ++ items_text false (edits_data (edit_values l.edits))
