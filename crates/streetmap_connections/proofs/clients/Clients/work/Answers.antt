use Rattle.std.proofs.Common.{◌≡◌, List, length, sym, subst, ◌∙◌}
use Rattle.std.specs.List.{flat_map, AllZip}
use Rattle.std.proofs.lemmas.List.Elements.{length_all_zip}
use Rattle.streetmap_connections.specs.declared.slot.Slot.{Slot}
use Rattle.streetmap_connections.specs.Counts.{count_of}
use Rattle.streetmap_connections.specs.Services.{EachMoves, Serves}
use Rattle.streetmap_connections.specs.Slots.{clients_in, ended_in, EndsLate, EndsOnly}
use Rattle.streetmap_connections.proofs.Counting.{all_given_back, count_by_length, count_is_added, lent_and_back}
use Rattle.streetmap_connections.proofs.clients.Clients.work.Goals as goal

pub invariant_of-self : goal.invariant_of-self
invariant_of-self g c =
    let now = c.args.self.now in
    let lent = c.as_mut_slice.result.now in
    let slots = c.give_turns.new.slots in
    let same = all_given_back now.slots.len slots now.slots.items (c.give_turns.auto.slots ∙ c.as_mut_slice.ensures.len) in
    let long : length (flat_map clients_in slots) ≡ length (flat_map clients_in lent) = sym (length_all_zip _ (flat_map clients_in lent) (flat_map clients_in slots) c.give_turns.ensures.moves) in
    let begun : now.begun ≡ count_of (flat_map clients_in lent) = rw c.as_mut_slice.ensures.value now.counts_begun in
    let ended : now.ended ≡ count_of (ended_in lent) = rw c.as_mut_slice.ensures.value now.counts_ended in
    record {
      counts_begun = subst (λ (xs : List (Slot g.row.S.Denot)). now.begun ≡ count_of (flat_map clients_in xs)) (sym same)
          (count_by_length now.begun (flat_map clients_in lent) (flat_map clients_in slots) long begun);
      counts_ended = subst (λ (xs : List (Slot g.row.S.Denot)). c.saturating_add-self.result ≡ count_of (ended_in xs)) (sym same)
          (count_is_added now.ended c.saturating_add-self.result c.give_turns.new.self.ended (ended_in lent) (ended_in slots) ended c.give_turns.ensures.counted c.saturating_add-self.ensures);
    }

pub returns-clause-serves : goal.returns-clause-serves
returns-clause-serves g c =
    let slots = c.args.self.now.slots in
    lent_and_back (λ (xs ys : List (Slot g.row.S.Denot)). Serves g.V.Service.answers g.V.Service.refuses c.args.service.now c.give_turns.new.service xs ys)
    slots.len c.as_mut_slice.result.now slots.items c.give_turns.new.slots c.as_mut_slice.ensures.value (c.give_turns.auto.slots ∙ c.as_mut_slice.ensures.len) c.give_turns.ensures.serves

pub returns-clause-moves : goal.returns-clause-moves
returns-clause-moves g c =
    let slots = c.args.self.now.slots in
    lent_and_back (λ (xs ys : List (Slot g.row.S.Denot)). EachMoves g.S.Stream.remaining g.S.Stream.contents (flat_map clients_in xs) (flat_map clients_in ys))
    slots.len c.as_mut_slice.result.now slots.items c.give_turns.new.slots c.as_mut_slice.ensures.value (c.give_turns.auto.slots ∙ c.as_mut_slice.ensures.len) c.give_turns.ensures.moves

pub returns-clause-late : goal.returns-clause-late
returns-clause-late g c =
    let slots = c.args.self.now.slots in
    lent_and_back (λ (xs ys : List (Slot g.row.S.Denot)). AllZip (EndsLate c.args.now c.args.self.now.limits.patience) xs ys)
    slots.len c.as_mut_slice.result.now slots.items c.give_turns.new.slots c.as_mut_slice.ensures.value (c.give_turns.auto.slots ∙ c.as_mut_slice.ensures.len) c.give_turns.ensures.late

pub returns-clause-ends : goal.returns-clause-ends
returns-clause-ends g c =
    let slots = c.args.self.now.slots in
    lent_and_back (λ (xs ys : List (Slot g.row.S.Denot)). AllZip (EndsOnly c.args.now c.args.self.now.limits.patience g.S.Stream.is_gone) xs ys)
    slots.len c.as_mut_slice.result.now slots.items c.give_turns.new.slots c.as_mut_slice.ensures.value (c.give_turns.auto.slots ∙ c.as_mut_slice.ensures.len) c.give_turns.ensures.ends
