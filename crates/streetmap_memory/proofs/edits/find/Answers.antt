use Rattle.std.proofs.Common.{ap, sym, ◌∙◌}
use Rattle.streetmap_memory.specs.Undo.{found_on, found_slot}
use Rattle.streetmap_memory.proofs.Maps.{get_of}
use Rattle.streetmap_memory.proofs.edits.find.Goals as goal

pub returns-in-Some-get : goal.returns-in-Some-get
returns-in-Some-get c = ap found_slot c.in-Some-get.ensures ∙ ap (λ o. found_on o c.args.id.now)
    (c.in-Some.ensures.value ∙ sym (get_of c.args.collections.now.entries c.args.name.now))

pub returns-in-None-get : goal.returns-in-None-get
returns-in-None-get c = ap found_slot c.in-None-get.ensures ∙ ap (λ o. found_on o c.args.id.now)
    (c.in-Some.ensures.value ∙ sym (get_of c.args.collections.now.entries c.args.name.now))

pub returns-in-None : goal.returns-in-None
returns-in-None c = ap (λ o. found_on o c.args.id.now) (c.in-None.ensures.value ∙ sym (get_of c.args.collections.now.entries c.args.name.now))
