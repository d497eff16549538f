use Rattle.std.proofs.Common.{ap, sym, ◌∙◌}
use Rattle.std.specs.Option.{option_flatten}
use Rattle.std.specs.FinMap.{get}
use Rattle.streetmap_memory.specs.Slots.{SlotCollection}
use Rattle.streetmap_memory.proofs.Maps.{get_of}
use Rattle.streetmap_memory.proofs.collection.PlainCollection.get.Goals as goal

pub returns-in-Some : goal.returns-in-Some
returns-in-Some c = c.as_ref.ensures.value ∙ ap option_flatten (c.in-Some.ensures.value ∙
    (sym (get_of c.self.inside.slots.entries c.args.id.now) ∙ ap (λ (s : SlotCollection). get s.slots c.args.id.now) c.self.view_is))

pub returns-in-None : goal.returns-in-None
returns-in-None c = ap option_flatten (c.in-None.ensures.value ∙ (sym (get_of c.self.inside.slots.entries c.args.id.now)
    ∙ ap (λ (s : SlotCollection). get s.slots c.args.id.now) c.self.view_is))
