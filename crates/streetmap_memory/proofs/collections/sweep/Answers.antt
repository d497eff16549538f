use Rattle.std.proofs.Common.{ap, sym, ◌∙◌}
use Rattle.streetmap_memory.specs.Slots.{map_of}
use Rattle.streetmap_memory.specs.Undo.{all_swept}
use Rattle.streetmap_memory.proofs.Sweeping.{all_swept_last}
use Rattle.streetmap_memory.proofs.collections.sweep.Goals as goal

pub loop-edit-preserved : goal.loop-edit-preserved
loop-edit-preserved c =
    ap (all_swept c.pop.new.self.items) c.sweep_edit.ensures ∙ (sym (all_swept_last c.pop.new.self.items c.in-Some.edit
    (map_of c.loop-edit.collections.entries))
    ∙ (ap (λ us. all_swept us (map_of c.loop-edit.collections.entries)) (sym c.in-Some.ensures.items) ∙ c.loop-edit.invariant))
