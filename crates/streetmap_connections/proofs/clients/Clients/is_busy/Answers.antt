use Rattle.std.proofs.Common.{◌≡◌, List, length, get_or, subst, ap, arith}
use Rattle.streetmap_connections.specs.declared.slot.Slot.{Slot}
use Rattle.streetmap_connections.specs.Slots.{AreQuiet}
use Rattle.streetmap_connections.proofs.clients.Clients.is_busy.Goals as goal

pub returns : goal.returns
returns g c k d lt =
    let same = c.as_slice-slots.ensures.value in
    let long : length c.as_slice-slots.result.now ≡ length c.args.self.now.slots.items =
    ap (λ (xs : List (Slot g.row.S.Denot)). length xs) same in
    subst (λ (xs : List (Slot g.row.S.Denot)). AreQuiet (get_or xs k d)) same
    (c.loop-slot.invariant k d (omega arith) (omega (arith, lt, long, c.loop-slot-test.false)))
