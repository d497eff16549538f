use Rattle.std.proofs.Common.{ap, sym, ◌∙◌}
use Rattle.std.specs.FinMap.{get}
use Rattle.streetmap_memory.specs.Slots.{SlotCollection, is_emptied}
use Rattle.streetmap_memory.proofs.Maps.{get_of}
use Rattle.streetmap_memory.proofs.Sweeping.{emptied_is}
use Rattle.streetmap_memory.proofs.collection.PlainCollection.is_emptied.Goals as goal

pub returns-in-Some : goal.returns-in-Some
returns-in-Some c = emptied_is c.is_none.result c.in-Some.slot.now (sym c.is_none.ensures)
    ∙ ap is_emptied (c.in-Some.ensures.value ∙ (sym (get_of c.self.inside.slots.entries c.args.id.now)
    ∙ ap (λ (s : SlotCollection). get s.slots c.args.id.now) c.self.view_is))

pub returns-in-None : goal.returns-in-None
returns-in-None c = ap is_emptied (c.in-None.ensures.value ∙ (sym (get_of c.self.inside.slots.entries c.args.id.now)
    ∙ ap (λ (s : SlotCollection). get s.slots c.args.id.now) c.self.view_is))
