use Rattle.std.proofs.Common.{◌≡◌, ◌+◌, length, drop, map, vec_capacity}
use Rattle.streetmap_memory.specs.Slots.{map_of}
use Rattle.streetmap_memory.specs.Undo.{rewound}
use Rattle.streetmap_batch.specs.BatchView.{edit_value}
use Rattle.streetmap_ledger.specs.Batches.{edited}
use Rattle.streetmap_memory.specs.Does.{Keys, state_of}
use Rattle.streetmap_memory.proofs.edits.act_all.Given as goal

abbrev pub invariant-loop-edit : goal.invariant-loop-edit
invariant-loop-edit l = record {
  count : length l.log.items ≡ l.edit-index;
  place : l.place ≡ l.edit-index + 1;
  room : vec_capacity l.log ≡ length l.edits;
  back : rewound l.log.items (map_of l.collections.entries) ≡ map_of l.fn.collections.entries;
  rest : (keys : Keys) → edited 1 (state_of (map_of l.fn.collections.entries) keys) (map edit_value l.edits)
      ≡ edited l.place (state_of (map_of l.collections.entries) keys) (map edit_value (drop l.edit-index l.edits));
}
