use Rattle.std.proofs.Common.{◌≡◌, ◌++◌, inl, sym, subst, ◌∙◌}
use Rattle.streetmap_connections.specs.declared.slot.Slot.{Slot}
use Rattle.streetmap_connections.specs.Clients.{HasLeft, IsLate}
use Rattle.streetmap_connections.specs.Slots.{past_of, present}
use Rattle.streetmap_connections.proofs.Counting.{counts_kept, counts_one, one_present}
use Rattle.streetmap_connections.proofs.Lateness.{ended_late, ends_rightly, goes_is_not_ends, none_there, not_late, rests_is_not_ends}
use Rattle.streetmap_connections.proofs.clients.Round.give_turn.Goals.{in-Rests, in-Goes, in-Ends}
use Rattle.streetmap_connections.proofs.clients.Round.give_turn.Goals as goal

pub returns-clause-counted : goal.returns-clause-counted
returns-clause-counted g c =
    let ended = c.args.self.now.ended in
    let past = past_of c.args.slot.now in
    let taken = c.take_turn.new.self in
    elim c.match-take_turn.branch [
      | in-Rests w ↦ rw (w.self-is, w.slot-is) (counts_kept ended past (past_of taken) c.take_turn.ensures.past)
      | in-Goes w ↦ rw (w.self-is, w.slot-is) (counts_kept ended past (past_of taken) c.take_turn.ensures.past)
      | in-Ends w ↦ rw (w.self-is, w.slot-is) (counts_one ended w.saturating_add-self.result past (past_of w.end.new.self) (present taken.client)
          (rw c.take_turn.ensures.past at w.end.ensures.past) (one_present taken.client (c.take_turn.ensures.ends w.in-Ends.is)) w.saturating_add-self.ensures)
    ]

pub returns-clause-late : goal.returns-clause-late
returns-clause-late g c =
    let old = c.args.slot.now in
    let past = past_of old in
    let taken = c.take_turn.new.self in
    let Late = IsLate c.args.self.now.now c.args.self.now.limits.patience in
    let said = c.take_turn.ensures.late in
    elim c.match-take_turn.branch [
      | in-Rests w ↦ rw w.slot-is (not_late Late past old.client taken (λ ends. rests_is_not_ends (sym w.in-Rests.is ∙ ends.0)) said)
      | in-Goes w ↦ rw w.slot-is (not_late Late past old.client taken (λ ends. goes_is_not_ends (sym w.in-Goes.is ∙ ends.0)) said)
      | in-Ends w ↦ rw w.slot-is (ended_late Late past old.client w.end.new.self
          (λ ends. (w.end.ensures.free, subst (λ (s : Slot g.row.S.Denot). past_of w.end.new.self ≡ past_of s ++ present s.client) ends.1 w.end.ensures.past)) said)
    ]

pub returns-clause-ends : goal.returns-clause-ends
returns-clause-ends g c =
    let old = c.args.slot.now in
    let taken = c.take_turn.new.self in
    let said = c.take_turn.ensures in
    let Late = IsLate c.args.self.now.now c.args.self.now.limits.patience in
    let Left = HasLeft g.S.Stream.is_gone in
    elim c.match-take_turn.branch [
      | in-Rests w ↦ rw w.slot-is (λ none. inl (none_there Late Left old.client (said.stays none)))
      | in-Goes w ↦ rw w.slot-is (λ none. inl (none_there Late Left old.client (said.stays none)))
      | in-Ends w ↦ rw w.slot-is (λ none. ends_rightly Late Left (past_of old) (past_of w.end.new.self) old.client taken.client (said.ends w.in-Ends.is)
          (rw said.past at w.end.ensures.past) (said.left w.in-Ends.is))
    ]
