use Rattle.std.proofs.Common.{◌<◌, length, set, arith}
use Rattle.std.specs.List.{flat_map}
use Rattle.streetmap_connections.specs.SlotClients.{client_history}
use Rattle.std.proofs.lemmas.Option.{slice_get_within}
use Rattle.streetmap_connections.specs.Slots.{clients_in, ended_in, past_of, refusals_in, woken_in}
use Rattle.streetmap_connections.proofs.Counting.{count_by_length, count_by_map, longer_in_slots}
use Rattle.streetmap_connections.proofs.Idling.{found_changed}
use Rattle.streetmap_connections.proofs.InTurn.{same_in_turn}
use Rattle.streetmap_connections.proofs.Refusals.{same_in_places}
use Rattle.streetmap_connections.proofs.ServingLemmas.{same_exchanges, same_in_slots}
use Rattle.streetmap_connections.proofs.clients.Clients.wake.Goals as goal

pub returns-then-place-len-clause-same : goal.returns-then-place-len-clause-same
returns-then-place-len-clause-same g c =
    let within : c.args.place < length c.args.self.now.slots.items = omega (arith, c.if-place-len.true, c.len.ensures) in
    same_in_slots c.args.self.now.slots.items c.args.place c.index_mut.result.now c.wake.new.self within c.index_mut.ensures.value c.wake.ensures.same

pub returns-then-place-len-clause-kept : goal.returns-then-place-len-clause-kept
returns-then-place-len-clause-kept g c =
    let within : c.args.place < length c.args.self.now.slots.items = omega (arith, c.if-place-len.true, c.len.ensures) in
    same_in_turn c.args.self.now.slots.items c.args.place c.index_mut.result.now c.wake.new.self within c.index_mut.ensures.value
    (same_exchanges (clients_in c.index_mut.result.now) (clients_in c.wake.new.self) c.wake.ensures.same)

pub returns-then-place-len-clause-unrefused : goal.returns-then-place-len-clause-unrefused
returns-then-place-len-clause-unrefused g c =
    let within : c.args.place < length c.args.self.now.slots.items = omega (arith, c.if-place-len.true, c.len.ensures) in
    same_in_places c.args.self.now.slots.items c.args.place c.index_mut.result.now c.wake.new.self within c.index_mut.ensures.value refusals_in c.wake.ensures.unrefused

pub invariant_of-self : goal.invariant_of-self
invariant_of-self g c =
    let slots = c.args.self.now.slots.items in
    let was = c.index_mut.result.now in
    let is = c.wake.new.self in
    let within : c.args.place < length slots = omega (arith, c.if-place-len.true, c.len.ensures) in
    let same = same_in_slots slots c.args.place was is within c.index_mut.ensures.value c.wake.ensures.same in
    let ended = longer_in_slots past_of slots c.args.place was is within c.index_mut.ensures.value 0 (rw c.wake.ensures.past (omega arith)) in
    record {
      counts_begun = count_by_map client_history c.args.self.now.begun (flat_map clients_in slots) (flat_map clients_in (set slots c.args.place is)) same c.args.self.now.counts_begun;
      counts_ended = count_by_length c.args.self.now.ended (ended_in slots) (ended_in (set slots c.args.place is)) (omega (arith, ended)) c.args.self.now.counts_ended;
    }

pub returns-then-place-len-clause-woken : goal.returns-then-place-len-clause-woken
returns-then-place-len-clause-woken g c =
    let within : c.args.place < length c.args.self.now.slots.items = omega (arith, c.if-place-len.true, c.len.ensures) in
    found_changed (woken_in c.args.readable c.args.writable) c.args.self.now.slots.items c.args.place c.index_mut.result.now c.wake.new.self within c.index_mut.ensures.value c.wake.ensures.woken

pub returns-else-place-len-clause-woken : goal.returns-else-place-len-clause-woken
returns-else-place-len-clause-woken g c = λ s found.
    let within : c.args.place < length c.args.self.now.slots.items = slice_get_within _ _ _ found in
    absurd (omega (arith, within, c.if-place-len.false, c.len.ensures))
