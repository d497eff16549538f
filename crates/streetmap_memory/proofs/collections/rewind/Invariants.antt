use Rattle.std.proofs.Common.{◌≡◌, vec_len}
use Rattle.streetmap_memory.specs.Slots.{map_of}
use Rattle.streetmap_memory.specs.Undo.{rewound}
use Rattle.streetmap_memory.proofs.collections.rewind.Given as goal

abbrev pub invariant-loop-edit : goal.invariant-loop-edit
invariant-loop-edit l = rewound l.log.items (map_of l.collections.entries) ≡ rewound l.fn.log.items (map_of l.fn.collections.entries)

abbrev pub decreases-loop-edit : goal.decreases-loop-edit
decreases-loop-edit l = vec_len l.log
