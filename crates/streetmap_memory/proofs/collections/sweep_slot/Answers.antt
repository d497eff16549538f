use Rattle.std.proofs.Common.{IsSome, sym, subst, refl}
use Rattle.streetmap_memory.specs.Slots.{swept_slot}
use Rattle.streetmap_memory.proofs.SlotLemmas.{collection_some, collection_none}
use Rattle.streetmap_memory.proofs.collections.sweep_slot.Goals as goal

pub returns-in-Some : goal.returns-in-Some
returns-in-Some c =
    let there = c.in-Some.ensures.value in
    let writes = (c.get_mut.follows.holds c.sweep.new.self).3 (subst (λ o. IsSome o) there refl) in
    collection_some c.args.collections.now.entries (c.get_mut.follows.lender c.sweep.new.self).entries c.args.name.now _ c.sweep.new.self
    (λ s. swept_slot s c.args.id.now) (sym there) writes.3 writes.1 c.sweep.ensures

pub returns-in_default : goal.returns-in_default
returns-in_default c = rw c.get_mut.follows.holds-at-none (collection_none c.args.collections.now.entries c.args.name.now (λ s. swept_slot s c.args.id.now)
    (sym c.in_default.ensures.value))
