use Rattle.std.proofs.Common.{map, take}
use Rattle.std.specs.Option.{option_copied}
use Rattle.streetmap_batch.specs.BatchView.{edit_value}
use Rattle.streetmap_tables.specs.Insertions.{AreInsertions}
use Rattle.streetmap_tables.proofs.insertions.rows_of.Given as goal

abbrev pub invariant-edits : goal.invariant-edits
invariant-edits l =
    AreInsertions l.collection (option_copied l.property) (map edit_value (take l.edit-index l.edits)) l.rows.items
