use Rattle.std.proofs.Common.{◌≡◌, ◌++◌}
use Rattle.std.specs.Map.{values_of}
use Rattle.streetmap_memory.specs.Slots.{live_values}
use Rattle.streetmap_memory.proofs.collection.run_of.Given as goal

-- the run so far and the features that are left are all that were to come
abbrev pub invariant-loop-slot : goal.invariant-loop-slot
invariant-loop-slot l =
    l.run.items ++ live_values (values_of l.slot-iterator)
    ≡ live_values (values_of l.initial.slot-iterator)
