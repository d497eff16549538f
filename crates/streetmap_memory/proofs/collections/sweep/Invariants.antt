use Rattle.std.proofs.Common.{◌≡◌, vec_len}
use Rattle.streetmap_memory.specs.Slots.{map_of}
use Rattle.streetmap_memory.specs.Undo.{all_swept}
use Rattle.streetmap_memory.proofs.collections.sweep.Given as goal

abbrev pub invariant-loop-edit : goal.invariant-loop-edit
invariant-loop-edit l = all_swept l.log.items (map_of l.collections.entries) ≡ all_swept l.fn.log.items (map_of l.fn.collections.entries)

abbrev pub decreases-loop-edit : goal.decreases-loop-edit
decreases-loop-edit l = vec_len l.log
