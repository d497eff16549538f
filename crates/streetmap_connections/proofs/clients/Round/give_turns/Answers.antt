use Rattle.std.proofs.Common.{◌<◌, length, set, refl, sym, subst, ◌∙◌, add-one, arith}
use Rattle.streetmap_connections.specs.declared.slot.Slot.{Slot}
use Rattle.streetmap_connections.specs.Counts.{CountsOn}
use Rattle.streetmap_connections.specs.Services.{TakesTurn}
use Rattle.streetmap_connections.specs.Slots.{clients_in, past_of, EndsLate, EndsOnly}
use Rattle.streetmap_connections.proofs.Counting.{counts_kept, counts_then, counts_in_slots}
use Rattle.streetmap_connections.proofs.ServingLemmas.{each_stays, each_then, serves_none, serves_then, turn_in_slots, turn_moves_in_slots}
use Rattle.streetmap_connections.proofs.Turned.{Turned, none_turned, one_turned, all_turned}
use Rattle.streetmap_connections.proofs.clients.Round.give_turns.Goals as goal

pub loop-slot-init : goal.loop-slot-init
loop-slot-init g c = record { serves = serves_none g.V.Service.answers g.V.Service.refuses _ _; moves = each_stays g.S.Stream.remaining g.S.Stream.contents _; same = (refl, refl); late = none_turned _ _; ends = none_turned _ _; counted = counts_kept c.args.self.now.ended _ _ refl }

pub loop-slot-preserved : goal.loop-slot-preserved
loop-slot-preserved g c =
    let slots = c.loop-slot.slots in
    let index = c.loop-slot.slot-index in
    let slot : Slot g.row.S.Denot = c.slot-item.result in
    let given : Slot g.row.S.Denot = c.give_turn.new.slot in
    let within : index < length slots = omega arith in
    let turn : TakesTurn g.S.Stream.remaining g.S.Stream.contents g.V.Service.answers g.V.Service.refuses c.loop-slot.service c.give_turn.new.service (clients_in slot) (clients_in given)
    = subst (λ (s : Slot g.row.S.Denot). TakesTurn g.S.Stream.remaining g.S.Stream.contents g.V.Service.answers g.V.Service.refuses c.loop-slot.service c.give_turn.new.service (clients_in s) (clients_in given)) (sym c.slot-item.is) c.give_turn.ensures.turn in
    let counted : CountsOn c.loop-slot.self.ended c.give_turn.new.self.ended (past_of slot) (past_of given)
    = subst (λ (s : Slot g.row.S.Denot). CountsOn c.loop-slot.self.ended c.give_turn.new.self.ended (past_of s) (past_of given)) (sym c.slot-item.is) c.give_turn.ensures.counted in
    let R = EndsLate c.args.self.now.now c.args.self.now.limits.patience in
    let late : R slot given
    = subst (λ (s : Slot g.row.S.Denot). R s given) (sym c.slot-item.is)
    (rw (c.loop-slot.invariant.same.0, c.loop-slot.invariant.same.1) at c.give_turn.ensures.late) in
    let Q = EndsOnly c.args.self.now.now c.args.self.now.limits.patience g.S.Stream.is_gone in
    let ends : Q slot given
    = subst (λ (s : Slot g.row.S.Denot). Q s given) (sym c.slot-item.is)
    (rw (c.loop-slot.invariant.same.0, c.loop-slot.invariant.same.1) at c.give_turn.ensures.ends) in
    record {
      serves = serves_then g.V.Service.answers g.V.Service.refuses c.args.service.now c.loop-slot.service c.give_turn.new.service _ _ _ c.loop-slot.invariant.serves
          (turn_in_slots slots index slot given within c.slot-item.is g.V.Service.answers g.V.Service.refuses g.S.Stream.remaining g.S.Stream.contents c.loop-slot.service c.give_turn.new.service turn);
      moves = each_then g.S.Stream.remaining g.S.Stream.contents _ _ _ c.loop-slot.invariant.moves
          (turn_moves_in_slots g.S.Stream.remaining g.S.Stream.contents g.V.Service.answers g.V.Service.refuses c.loop-slot.service c.give_turn.new.service slots index slot given within c.slot-item.is turn);
      same = (c.give_turn.ensures.same.0 ∙ c.loop-slot.invariant.same.0, c.give_turn.ensures.same.1 ∙ c.loop-slot.invariant.same.1);
      late = subst (λ n. Turned R n c.args.slots.now (set slots index given)) (sym (add-one index)) (one_turned R index c.args.slots.now slots slot given within c.slot-item.is late c.loop-slot.invariant.late);
      ends = subst (λ n. Turned Q n c.args.slots.now (set slots index given)) (sym (add-one index)) (one_turned Q index c.args.slots.now slots slot given within c.slot-item.is ends c.loop-slot.invariant.ends);
      counted = counts_then c.args.self.now.ended c.loop-slot.self.ended c.give_turn.new.self.ended _ _ _ c.loop-slot.invariant.counted
          (counts_in_slots past_of slots index slot given within c.slot-item.is c.loop-slot.self.ended c.give_turn.new.self.ended counted);
    }

pub returns-clause-late : goal.returns-clause-late
returns-clause-late g c = all_turned _ c.loop-slot.slot-index c.args.slots.now c.loop-slot.slots (omega arith) c.loop-slot.invariant.late

pub returns-clause-ends : goal.returns-clause-ends
returns-clause-ends g c = all_turned _ c.loop-slot.slot-index c.args.slots.now c.loop-slot.slots (omega arith) c.loop-slot.invariant.ends
