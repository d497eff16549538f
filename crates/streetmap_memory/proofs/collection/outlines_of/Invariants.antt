use Rattle.std.proofs.Common.{◌≡◌, ◌++◌, map}
use Rattle.streetmap_ledger.specs.OutlineView.{feature_outline_values}
use Rattle.streetmap_memory.specs.Slots.{by_text, live_entries, outline_at}
use Rattle.streetmap_memory.proofs.collection.outlines_of.Given as goal

-- the outlines so far and those of the features that are left are all
abbrev pub invariant-loop-id : goal.invariant-loop-id
invariant-loop-id l = feature_outline_values l.outlines.items ++ map outline_at (live_entries (by_text l.id-iterator))
    ≡ map outline_at (live_entries (by_text l.slots.entries))
