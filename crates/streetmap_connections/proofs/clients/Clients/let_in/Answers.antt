use Rattle.std.proofs.Common.{◌≡◌, ◌<◌, ◌+◌, ap, length}
use Rattle.std.proofs.lemmas.Option.{slice_get_within}
use Rattle.streetmap_connections.specs.Moves.{Place}
use Rattle.streetmap_connections.specs.Slots.{clients_in, past_of, present, refusals_in}
use Rattle.streetmap_connections.proofs.Counting.{count_goes_on, length_after, longer_in_slots}
use Rattle.streetmap_connections.proofs.Idling.{found_put}
use Rattle.streetmap_connections.proofs.InTurn.{newcomer_in_slots}
use Rattle.streetmap_connections.proofs.Refusals.{newcomer_unrefused, same_in_places}
use Rattle.streetmap_connections.proofs.ServingLemmas.{comes_in_slots}
use Rattle.streetmap_connections.proofs.clients.Clients.let_in.Goals as goal

pub returns-clause-comes : goal.returns-clause-comes
returns-clause-comes g c =
    let within : c.args.place < length c.args.self.now.slots.items = slice_get_within _ _ _ c.requires.1 in
    comes_in_slots c.args.self.now.slots.items c.args.place c.index_mut-slot.result.now c.let_in.new.self within c.index_mut-slot.ensures.value
    c.new-client.result c.let_in.ensures.one_more (ap (λ (p : Place). p.history) c.new-client.ensures.place)

pub returns-clause-kept : goal.returns-clause-kept
returns-clause-kept g c =
    let within : c.args.place < length c.args.self.now.slots.items = slice_get_within _ _ _ c.requires.1 in
    newcomer_in_slots c.args.self.now.slots.items c.args.place c.index_mut-slot.result.now c.let_in.new.self within c.index_mut-slot.ensures.value
    c.new-client.result c.let_in.ensures.one_more (ap (λ (p : Place). p.history.exchanges) c.new-client.ensures.place)

pub returns-clause-unrefused : goal.returns-clause-unrefused
returns-clause-unrefused g c =
    let within : c.args.place < length c.args.self.now.slots.items = slice_get_within _ _ _ c.requires.1 in
    let was = c.index_mut-slot.result.now in
    let is = c.let_in.new.self in
    same_in_places c.args.self.now.slots.items c.args.place was is within c.index_mut-slot.ensures.value refusals_in
    (newcomer_unrefused (clients_in was) (clients_in is) c.new-client.result c.let_in.ensures.one_more (ap (λ (p : Place). p.history.refusals) c.new-client.ensures.place))

pub returns-clause-one_more : goal.returns-clause-one_more
returns-clause-one_more g c =
    let within : c.args.place < length c.args.self.now.slots.items = slice_get_within _ _ _ c.requires.1 in
    longer_in_slots clients_in c.args.self.now.slots.items c.args.place c.index_mut-slot.result.now c.let_in.new.self within c.index_mut-slot.ensures.value 1
    (length_after (clients_in c.index_mut-slot.result.now) (clients_in c.let_in.new.self) _ c.let_in.ensures.one_more)

pub invariant_of-self : goal.invariant_of-self
invariant_of-self g c =
    let within : c.args.place < length c.args.self.now.slots.items = slice_get_within _ _ _ c.requires.1 in
    let slots = c.args.self.now.slots.items in
    let was = c.index_mut-slot.result.now in
    let is = c.let_in.new.self in
    let begun = longer_in_slots clients_in slots c.args.place was is within c.index_mut-slot.ensures.value 1 (length_after (clients_in was) (clients_in is) _ c.let_in.ensures.one_more) in
    let left : length (past_of is) ≡ length (past_of was) + c.count.result = rw c.count.ensures (length_after (past_of was) (past_of is) (present was.client) c.let_in.ensures.past) in
    let ended = longer_in_slots past_of slots c.args.place was is within c.index_mut-slot.ensures.value c.count.result left in
    record {
      counts_begun = count_goes_on c.args.self.now.begun c.saturating_add-self-2.result 1 _ _ c.args.self.now.counts_begun begun c.saturating_add-self-2.ensures;
      counts_ended = count_goes_on c.args.self.now.ended c.saturating_add-self.result c.count.result _ _ c.args.self.now.counts_ended ended c.saturating_add-self.ensures;
    }

pub returns-clause-here : goal.returns-clause-here
returns-clause-here g c =
    let within : c.args.place < length c.args.self.now.slots.items = slice_get_within _ _ _ c.requires.1 in
    (c.let_in.new.self, found_put c.args.self.now.slots.items c.args.place c.let_in.new.self within, c.new-client.result, c.let_in.ensures.here, c.new-client.ensures.since.0)
