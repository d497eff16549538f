use Rattle.std.proofs.Common.{ap, sym, ◌∙◌}
use Rattle.streetmap_memory.specs.Slots.{map_of}
use Rattle.streetmap_memory.specs.Undo.{rewound}
use Rattle.streetmap_memory.proofs.SlotLemmas.{rewound_last}
use Rattle.streetmap_memory.proofs.collections.rewind.Goals as goal

pub loop-edit-preserved : goal.loop-edit-preserved
loop-edit-preserved c =
    ap (rewound c.pop.new.self.items) c.undo.ensures ∙ (sym (rewound_last c.pop.new.self.items c.in-Some.edit (map_of c.loop-edit.collections.entries))
    ∙ (ap (λ us. rewound us (map_of c.loop-edit.collections.entries)) (sym c.in-Some.ensures.items) ∙ c.loop-edit.invariant))
