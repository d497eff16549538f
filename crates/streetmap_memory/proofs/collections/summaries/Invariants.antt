use Rattle.std.proofs.Common.{◌≡◌, ◌++◌, map}
use Rattle.streetmap_ledger.specs.SummaryView.{summary_values}
use Rattle.streetmap_memory.specs.Slots.{summary_at}
use Rattle.streetmap_memory.proofs.collections.summaries.Given as goal

-- the descriptions so far and those left are all
abbrev pub invariant-loop-id : goal.invariant-loop-id
invariant-loop-id l = summary_values l.reported.items ++ map summary_at l.id-iterator ≡ map summary_at l.collections.entries
