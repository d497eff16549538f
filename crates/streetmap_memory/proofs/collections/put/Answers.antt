use Rattle.std.proofs.Common.{◌≡◌, Some, None, IsSome, ap, sym, subst, refl, ◌∙◌, string_bytes}
use Rattle.streetmap_memory.specs.Slots.{put_slot}
use Rattle.streetmap_memory.proofs.SlotLemmas.{collection_some, collection_none, collection_same, slot_at, any_err}
use Rattle.streetmap_memory.proofs.collections.put.Goals as goal

pub returns-in_err-put-in-Some-clause-err : goal.returns-in_err-put-in-Some-clause-err
returns-in_err-put-in-Some-clause-err c =
    let there = c.in-Some.ensures.value in
    let writes = (c.get_mut.follows.holds c.put.new.self).3 (subst (λ o. IsSome o) there refl) in
    any_err c.from_residual-in_err-put-in-Some.result _ (collection_same c.args.collections.now.entries (c.get_mut.follows.lender c.put.new.self).entries
    c.args.name.now _ c.put.new.self (sym there) writes.3 writes.1 c.in_err-put-in-Some.ensures.err)

pub returns-in_ok-put-in-Some-clause-ok : goal.returns-in_ok-put-in-Some-clause-ok
returns-in_ok-put-in-Some-clause-ok c =
    let there = c.in-Some.ensures.value in
    let writes = (c.get_mut.follows.holds c.put.new.self).3 (subst (λ o. IsSome o) there refl) in
    let id : string_bytes c.in_ok-key.key ≡ c.args.id.now = c.in_ok-key.ensures.ok in
    collection_some c.args.collections.now.entries (c.get_mut.follows.lender c.put.new.self).entries c.args.name.now c.in-Some.collection.now c.put.new.self
    (λ s. put_slot s c.args.id.now (Some c.args.feature)) (sym there) writes.3 writes.1
    (c.in_ok-put-in-Some.ensures.ok ∙ ap (λ i. put_slot c.in-Some.collection.now i (Some c.args.feature)) id)

pub returns-in_ok-put-in-Some-clause-was : goal.returns-in_ok-put-in-Some-clause-was
returns-in_ok-put-in-Some-clause-was c =
    let id : string_bytes c.in_ok-key.key ≡ c.args.id.now = c.in_ok-key.ensures.ok in
    rw (← id) (c.in_ok-put-in-Some.ensures.was ∙ sym (slot_at c.args.collections.now.entries c.args.name.now (string_bytes c.in_ok-key.key) _
    (sym c.in-Some.ensures.value)))

pub returns-in-None-clause-ok : goal.returns-in-None-clause-ok
returns-in-None-clause-ok c = rw c.get_mut.follows.holds-at-none (collection_none c.args.collections.now.entries c.args.name.now
    (λ s. put_slot s c.args.id.now (Some c.args.feature)) (sym c.in-None.ensures.value))

pub returns-in-None-clause-was : goal.returns-in-None-clause-was
returns-in-None-clause-was c = sym (slot_at c.args.collections.now.entries c.args.name.now c.args.id.now None (sym c.in-None.ensures.value))
