use Rattle.std.proofs.Common.{◌≡◌, find}
use Rattle.streetmap_ledger.specs.Kept.{has_serial}
use Rattle.streetmap_memory.specs.Slots.{by_text}
use Rattle.streetmap_memory.proofs.batches.batch_with.Given as goal

-- the search in the entries left finds what the search in all finds
abbrev pub invariant-loop-key : goal.invariant-loop-key
invariant-loop-key l =
    find (has_serial l.serial) (by_text l.key-iterator)
    ≡ find (has_serial l.serial) (by_text l.keys.entries)
