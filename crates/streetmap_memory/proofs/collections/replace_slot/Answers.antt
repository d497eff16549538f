use Rattle.std.proofs.Common.{None, IsSome, sym, subst, refl, ◌∙◌}
use Rattle.streetmap_memory.specs.Slots.{reset_slot}
use Rattle.streetmap_memory.proofs.SlotLemmas.{collection_some, collection_none, slot_at}
use Rattle.streetmap_memory.proofs.collections.replace_slot.Goals as goal

pub returns-in-Some-clause-after : goal.returns-in-Some-clause-after
returns-in-Some-clause-after c =
    let there = c.in-Some.ensures.value in
    let writes = (c.get_mut.follows.holds c.replace_slot.new.self).3 (subst (λ o. IsSome o) there refl) in
    collection_some c.args.collections.now.entries (c.get_mut.follows.lender c.replace_slot.new.self).entries c.args.name.now _ c.replace_slot.new.self
    (λ s. reset_slot s c.args.id.now c.args.slot) (sym there) writes.3 writes.1 c.replace_slot.ensures.after

pub returns-in-Some-clause-was : goal.returns-in-Some-clause-was
returns-in-Some-clause-was c = c.replace_slot.ensures.was ∙ sym (slot_at c.args.collections.now.entries c.args.name.now c.args.id.now _
    (sym c.in-Some.ensures.value))

pub returns-in-None-clause-after : goal.returns-in-None-clause-after
returns-in-None-clause-after c = rw c.get_mut.follows.holds-at-none (collection_none c.args.collections.now.entries c.args.name.now
    (λ s. reset_slot s c.args.id.now c.args.slot) (sym c.in-None.ensures.value))

pub returns-in-None-clause-was : goal.returns-in-None-clause-was
returns-in-None-clause-was c = sym (slot_at c.args.collections.now.entries c.args.name.now c.args.id.now None (sym c.in-None.ensures.value))
