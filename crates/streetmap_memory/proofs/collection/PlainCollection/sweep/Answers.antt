use Rattle.std.proofs.Common.{cond, ap, ◌∙◌}
use Rattle.streetmap_memory.specs.Slots.{SlotCollection, cut_slot}
use Rattle.streetmap_memory.proofs.collection.PlainCollection.sweep.Goals as goal

pub returns-then-is_emptied : goal.returns-then-is_emptied
returns-then-is_emptied c = c.remove_slot.ensures ∙ ap (λ t. cond {A = SlotCollection} t (cut_slot c.args.self.now c.args.id.now) c.args.self.now)
    (c.if-is_emptied.ensures)
