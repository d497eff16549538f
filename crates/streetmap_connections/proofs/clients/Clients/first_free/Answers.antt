use Rattle.std.proofs.Common.{◌≡◌, List, length, get_or, subst, ap, arith}
use Rattle.std.proofs.lemmas.List.Elements.{AllWithin-more, at_read}
use Rattle.streetmap_connections.specs.declared.slot.Slot.{Slot}
use Rattle.streetmap_connections.specs.Slots.{GivesWayAt, IsFreeAt, IsTaken}
use Rattle.streetmap_connections.proofs.Idling.{found_read}
use Rattle.streetmap_connections.proofs.clients.Clients.first_free.Goals as goal

pub loop-place-preserved : goal.loop-place-preserved
loop-place-preserved g c =
    let slots = c.as_slice-slots.result.now in
    AllWithin-more IsTaken slots 0 c.loop-place.place c.loop-place.invariant
    (at_read slots IsTaken c.loop-place.place c.index-slots-place.result c.loop-place-test.true c.index-slots-place.is c.if-is_free.ensures.taken)

pub returns-then-is_free-clause-gives_way : goal.returns-then-is_free-clause-gives_way
returns-then-is_free-clause-gives_way g c =
    let slot = c.index-slots-place.result in
    subst (λ (xs : List (Slot g.row.S.Denot)). GivesWayAt xs c.loop-place.place) c.as_slice-slots.ensures.value
    (slot, found_read c.as_slice-slots.result.now c.loop-place.place slot c.loop-place-test.true c.index-slots-place.is, c.if-is_free.ensures.gives_way)

pub returns-then-is_free-clause-free : goal.returns-then-is_free-clause-free
returns-then-is_free-clause-free g c =
    let slot = c.index-slots-place.result in
    subst (λ (xs : List (Slot g.row.S.Denot)). IsFreeAt xs c.loop-place.place) c.as_slice-slots.ensures.value
    (slot, found_read c.as_slice-slots.result.now c.loop-place.place slot c.loop-place-test.true c.index-slots-place.is, c.if-is_free.ensures.free)

pub returns-clause-full : goal.returns-clause-full
returns-clause-full g c k d lt =
    let same = c.as_slice-slots.ensures.value in
    let long : length c.as_slice-slots.result.now ≡ length c.args.self.now.slots.items = ap (λ (xs : List (Slot g.row.S.Denot)). length xs) same in
    subst (λ (xs : List (Slot g.row.S.Denot)). IsTaken (get_or xs k d)) same (c.loop-place.invariant k d (omega arith) (omega (arith, lt, long, c.loop-place-test.false)))
