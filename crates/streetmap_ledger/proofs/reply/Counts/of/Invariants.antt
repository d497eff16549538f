use Rattle.std.proofs.Common.{◌≡◌, ◌≤◌, drop, map}
use Rattle.streetmap_batch.specs.BatchView.{edit_value}
use Rattle.streetmap_ledger.specs.Batches.{counted_all, counts_of}
use Rattle.streetmap_ledger.proofs.reply.Counts.of.Given as goal

abbrev pub invariant-loop-edit : goal.invariant-loop-edit
invariant-loop-edit l = record {
  rest : counted_all l.counts (map edit_value (drop l.edit-index l.edits)) ≡ counts_of (map edit_value l.edits);
  opened : l.counts.opened ≤ l.edit-index;
  inserted : l.counts.inserted ≤ l.edit-index;
  replaced : l.counts.replaced ≤ l.edit-index;
  deleted : l.counts.deleted ≤ l.edit-index;
}
