use Rattle.std.proofs.Common.{ℕ, ◌<◌, ◌≤◌, List, IfSome, IfNone, subst, arith}
use Rattle.std.proofs.lemmas.List.Elements.{AllWithin-more, at_read}
use Rattle.streetmap_connections.specs.declared.slot.Slot.{Slot}
use Rattle.streetmap_connections.specs.Slots.{IdlesFor, IsLongestIdleAt, NoneIdlesBeyond}
use Rattle.streetmap_connections.proofs.Idling.{found_read, longest_found, none_beyond, none_found}
use Rattle.streetmap_connections.proofs.clients.Clients.longest_idle.Goals.{then-idle-longest, else-idle-longest}
use Rattle.streetmap_connections.proofs.clients.Clients.longest_idle.Goals as goal

pub loop-place-preserved : goal.loop-place-preserved
loop-place-preserved g c =
    let slots = c.as_slice-slots.result.now in
    let place = c.loop-place.place in
    let slot : Slot g.row.S.Denot = c.index-slots-place.result in
    let inv = c.loop-place.invariant in
    let idle = c.idle_for-idle.result in
    let here = found_read slots place slot c.loop-place-test.true c.index-slots-place.is in
    elim c.if-idle-longest.branch [
      | then-idle-longest w ↦
          let more : 0 < idle = omega (arith, w.if-idle-longest.true) in
          let P : Slot g.row.S.Denot → Type 0 = λ s. (m : ℕ) → IdlesFor c.args.now s m → m ≤ idle in
          rw (w.found-is, w.longest-is) (record {
            gives_way = (slot, here, c.idle_for-idle.ensures.gives_way more);
            idle = (slot, here, c.idle_for-idle.ensures.idle more);
            none = tt;
            most = AllWithin-more P slots 0 place (λ k d from below m idles. omega (arith, inv.most k d from below m idles, w.if-idle-longest.true)) (at_read slots P place slot c.loop-place-test.true c.index-slots-place.is c.idle_for-idle.ensures.most);
          })
      | else-idle-longest w ↦
          let P : Slot g.row.S.Denot → Type 0 = λ s. (m : ℕ) → IdlesFor c.args.now s m → m ≤ c.loop-place.longest in
          rw (w.found-is, w.longest-is) (record {
            gives_way = inv.gives_way;
            idle = inv.idle;
            none = inv.none;
            most = AllWithin-more P slots 0 place inv.most (at_read slots P place slot c.loop-place-test.true c.index-slots-place.is (λ m idles. omega (arith, c.idle_for-idle.ensures.most m idles, w.if-idle-longest.false)));
          })
    ]

pub returns-clause-longest : goal.returns-clause-longest
returns-clause-longest g c =
    let slots = c.as_slice-slots.result.now in
    let none = none_beyond c.args.now c.loop-place.longest slots c.loop-place.place c.loop-place-test.false c.loop-place.invariant.most in
    subst (λ (xs : List (Slot g.row.S.Denot)). IfSome c.loop-place.found (λ place. IsLongestIdleAt c.args.now xs place)) c.as_slice-slots.ensures.value
    (longest_found c.args.now c.loop-place.longest slots c.loop-place.found c.loop-place.invariant.idle none)

pub returns-clause-none_idle : goal.returns-clause-none_idle
returns-clause-none_idle g c =
    let slots = c.as_slice-slots.result.now in
    let none = none_beyond c.args.now c.loop-place.longest slots c.loop-place.place c.loop-place-test.false c.loop-place.invariant.most in
    subst (λ (xs : List (Slot g.row.S.Denot)). IfNone c.loop-place.found (NoneIdlesBeyond c.args.now c.args.self.now.limits.least_idle xs)) c.as_slice-slots.ensures.value
    (none_found c.args.now c.loop-place.longest c.args.self.now.limits.least_idle slots c.loop-place.found c.loop-place.invariant.none none)
