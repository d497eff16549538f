-- Followers of the journal.
use Rattle.std.proofs.Common.{◌≡◌, ℕ, zero, suc, ◌+◌, ◌-◌, ◌<◌, ◌≤◌, max, min, List, [], ◌∷◌}
use Rattle.std.proofs.Common.{length}
use Rattle.std.proofs.Common.{take, drop, map, Bool, true, false, cond, ◌||◌, ◌==◌, All, Option}
use Rattle.std.proofs.Common.{None}
use Rattle.std.proofs.Common.{Some, Result, Ok, Err, refl, sym, ap, subst, ◌∙◌, ◌⊎◌, inl, inr}
use Rattle.std.proofs.Common.{arith}
use Rattle.std.specs.Prelude.{slice_get}
use Rattle.std.specs.Cmp.Lexicographic.{nat_list_eq_equiv}
use Rattle.std.specs.FinMap.{get, len, len-empty}
use Rattle.std.proofs.lemmas.Bool.{cases_lt}
use Rattle.std.proofs.lemmas.Bool.Decides.{nat_tests}
use Rattle.std.proofs.lemmas.List.{length-map, take_all, take-map, drop-map, length-drop}
use Rattle.std.proofs.lemmas.List.{length-take}
use Rattle.std.proofs.lemmas.List.Elements.{All-head, All-tail, All-take}
use Rattle.streetmap_batch.specs.Text.{Text, text_cmp}
use Rattle.streetmap_batch.specs.BatchFacts.{IsSoundBatch}
use Rattle.streetmap_batch.specs.ParsedBatches.{batch_of}
use Rattle.streetmap_batch.specs.BatchText.{batch_text}
use Rattle.streetmap_batch.specs.BatchValue.{BatchValue}
use Rattle.streetmap_ledger.specs.State.{State, AcceptedBatch, opening_state}
use Rattle.streetmap_ledger.specs.Batches.{Outcome, act, after_all, replies_of, kept_for}
use Rattle.streetmap_ledger.specs.Laws.{IsAcknowledged, is_accepted, accepted_of}
use Rattle.streetmap_ledger.specs.WellFormed.{IsState}
use Rattle.streetmap_ledger.specs.declared.reply.Reply.{Reply}
use Rattle.streetmap_ledger.specs.declared.reply.Reply.TheVariants.{Accepted, Repeated, Refused}
use Rattle.streetmap_ledger.proofs.Repeat.{IsThere, again, there_again}
use Rattle.streetmap_ledger.proofs.Acceptance.{accepted_are_enough}
use Rattle.streetmap_ledger.proofs.StatesStay.{opening_sound}
use Rattle.streetmap_replay.specs.Again.{untimed_batch}
use Rattle.streetmap_replay.specs.Journal.{journal}
use Rattle.streetmap_replay.specs.Lines.{Line, bare, numbered}
use Rattle.streetmap_replay.specs.JournalText.{numbered_after, journal_lines}
use Rattle.streetmap_replay.specs.FollowedLines.{LineFault, not_next, Followed, is_under, is_next}
use Rattle.streetmap_replay.specs.FollowedLines.{unless_refused, acted, acted_next, line_outcome}
use Rattle.streetmap_replay.specs.FollowedLines.{goes_on}
use Rattle.streetmap_replay.specs.FollowedLines.{follow, Arrives, follower, lines_between}
use Rattle.streetmap_replay.specs.FollowedLines.{FollowersGoOn, FollowersAreBeginnings, FollowersArrive}
use Rattle.streetmap_replay.specs.FollowedLines.{LinesComeInOrder}
use Rattle.streetmap_replay.proofs.TextAgain.{reads_again}
use Rattle.streetmap_replay.proofs.Untimed.{act_untimed}
use Rattle.streetmap_replay.proofs.JournalGrows.{from_opening}
use Rattle.streetmap_replay.proofs.RepeatedBatches.{act_stays, accepted_reported, AreAcknowledged, all_accepted}
use Rattle.streetmap_replay.proofs.Accepted.{AreAccepted, are_accepted, there_at, next_at, count_at}
use Rattle.streetmap_replay.proofs.Accepted.{all_sound}
use Rattle.streetmap_replay.proofs.ItemsByPlace.{get_map, All-at, get_low, get_drop, get_taken}
use Rattle.streetmap_replay.proofs.ItemsByPlace.{numbered_at}
use Rattle.streetmap_replay.proofs.ItemsByPlace.{take-numbered, drop-numbered}

-- ---- texts are followed

abbrev with_reply : Reply → Followed → Followed
with_reply r f = record { replies = r ∷ f.replies; state = f.state; fault = f.fault }

reported_is : (t : State) (r : Reply) → IsAcknowledged r →
    unless_refused t r ≡ Ok (record { reply = r; state = t })
reported_is t (Accepted counts serial) h = refl
reported_is t (Repeated counts serial) h = refl
reported_is t (Refused why place) h = absurd h

batch_acts : (s : State) (b : BatchValue) → IsAcknowledged (act s b).reply →
    acted s (Ok (untimed_batch b)) ≡ Ok (act s b)
batch_acts s b ack =
    ap (λ (o : Outcome). unless_refused o.state o.reply) (act_untimed s b)
    ∙ reported_is (act s b).state (act s b).reply ack

text_acts : (s : State) (b : BatchValue) → IsSoundBatch b → IsAcknowledged (act s b).reply →
    acted s (batch_of (batch_text b)) ≡ Ok (act s b)
text_acts s b w ack = ap (acted s) (reads_again b w).1 ∙ batch_acts s b ack

abbrev bare_texts : List BatchValue → List Line
bare_texts bs = map bare (map batch_text bs)

pub follow_texts : (s : State) (bs : List BatchValue) → All IsSoundBatch bs → AreAcknowledged s bs →
    follow s (bare_texts bs)
    ≡ record { replies = replies_of s bs; state = after_all s bs; fault = None }
follow_texts s [] w h = refl
follow_texts s (b ∷ bs) w h =
    ap (λ (r : Result Outcome LineFault). goes_on s r (λ t. follow t (bare_texts bs)))
    (text_acts s b (All-head IsSoundBatch b bs w) h.0)
    ∙ ap (with_reply (act s b).reply)
    (follow_texts (act s b).state bs (All-tail IsSoundBatch b bs w) h.1)

-- ---- one line

either_first : (a b : Bool) → a ≡ true → (a || b) ≡ true
either_first a b e = rw e refl

either_second : (a b : Bool) → b ≡ true → (a || b) ≡ true
either_second true b e = refl
either_second false b e = e

neither : (a b : Bool) → a ≡ false → b ≡ false → (a || b) ≡ false
neither a b e f = rw (e, f) refl

same_number : (a b : ℕ) → a ≡ b → (a == b) ≡ true
same_number a b e = grind (arith, nat_tests)

other_number : (a b : ℕ) → a < b → (a == b) ≡ false
other_number a b e = grind (arith, nat_tests)

other_serial : (n : ℕ) (o : Option AcceptedBatch) →
    ((kept : AcceptedBatch) → o ≡ Some kept → kept.serial < n) → is_under n o ≡ false
other_serial n None low = refl
other_serial n (Some kept) low = other_number kept.serial n (low kept refl)

numbered_acts : (s : State) (n : ℕ) (b : BatchValue) → IsSoundBatch b → is_next s n b ≡ true →
    IsAcknowledged (act s b).reply →
    line_outcome s (numbered n (batch_text b)) ≡ Ok (act s b)
numbered_acts s n b w next ack =
    ap (acted_next s n) (reads_again b w).1
    ∙ (ap (λ (t : Bool). cond t (acted s (Ok (untimed_batch b))) (Err not_next)) next
    ∙ batch_acts s b ack)

numbered_waits : (s : State) (n : ℕ) (b : BatchValue) → IsSoundBatch b → is_next s n b ≡ false →
    line_outcome s (numbered n (batch_text b)) ≡ Err not_next
numbered_waits s n b w other =
    ap (acted_next s n) (reads_again b w).1
    ∙ ap (λ (t : Bool). cond t (acted s (Ok (untimed_batch b))) (Err not_next)) other

-- a line is followed, to this state
pub record Advances (s : State) (line : Line) (t : State) : Type 0 where
  pub outcome : Outcome
  pub is : line_outcome s line ≡ Ok outcome
  pub there : outcome.state ≡ t

module _ (bs : List BatchValue) (w : All IsSoundBatch bs) where
  abbrev accepted : List BatchValue
  accepted = accepted_of opening_state bs

  in_turn : AreAccepted opening_state accepted
  in_turn = are_accepted opening_state bs

  writable_at : (n : ℕ) (b : BatchValue) → slice_get accepted n ≡ Some b → IsSoundBatch b
  writable_at n b at =
      All-at IsSoundBatch accepted n b (all_accepted IsSoundBatch opening_state bs w) at

  none_first : len opening_state.keys ≡ 0
  none_first = len-empty text_cmp AcceptedBatch

  -- what was accepted before is repeated
  again_at : (k n : ℕ) (b : BatchValue) → slice_get accepted n ≡ Some b → n < k →
      Advances (follower bs k) (numbered (n + 1) (batch_text b)) (follower bs k)
  again_at k n b at low =
      let s = follower bs k in
      let found = there_at opening_state accepted in_turn n k b at low in
      let kept = kept_for b (len opening_state.keys + n + 1) in
      let there : IsThere s b = (kept, found, nat_list_eq_equiv.refl (batch_text b)) in
      let zero_more = none_first in
      let serial : len opening_state.keys + n + 1 ≡ n + 1 = omega (arith, zero_more) in
      let is : is_under (n + 1) (get s.keys b.key) ≡ true =
      ap (is_under (n + 1)) found
      ∙ same_number (len opening_state.keys + n + 1) (n + 1) serial in
      let next = either_second (n + 1 == len s.keys + 1) _ is in
      record {
        outcome = act s b;
        is = numbered_acts s (n + 1) b (writable_at n b at) next (there_again s b there);
        there = again s b there;
      }

  -- the next is accepted
  next_to : (n : ℕ) (b : BatchValue) → slice_get accepted n ≡ Some b →
      Advances (follower bs n) (numbered (n + 1) (batch_text b)) (follower bs (n + 1))
  next_to n b at =
      let s = follower bs n in
      let low = get_low accepted n b at in
      let count = count_at opening_state accepted in_turn n (omega (arith, low)) in
      let zero_more = none_first in
      let serial : n + 1 ≡ len s.keys + 1 = omega (arith, count, zero_more) in
      let next = either_first _ (is_under (n + 1) (get s.keys b.key))
      (same_number (n + 1) (len s.keys + 1) serial) in
      let goes = next_at opening_state accepted in_turn n b at in
      let more : suc n ≡ n + 1 = omega arith in
      record {
        outcome = act s b;
        is = numbered_acts s (n + 1) b (writable_at n b at) next
            (accepted_reported (act s b).reply goes.0);
        there = goes.1 ∙ ap (follower bs) more;
      }

  pub advances : (k n : ℕ) (b : BatchValue) → slice_get accepted n ≡ Some b → n ≤ k →
      Advances (follower bs k) (numbered (n + 1) (batch_text b)) (follower bs (max k (n + 1)))
  advances k n b at low = by (cases_lt n k) where
    by : (n < k) ⊎ (k ≤ n) →
        Advances (follower bs k) (numbered (n + 1) (batch_text b)) (follower bs (max k (n + 1)))
    by (inl less) =
        let most : k ≡ max k (n + 1) = omega (arith, less) in
        let line = numbered (n + 1) (batch_text b) in
        subst (λ (m : ℕ). Advances (follower bs k) line (follower bs m)) most
        (again_at k n b at less)
    by (inr high) =
        let same : n ≡ k = omega (arith, low, high) in
        let most : n + 1 ≡ max k (n + 1) = omega (arith, low, high) in
        let line = numbered (n + 1) (batch_text b) in
        subst (λ (m : ℕ). Advances (follower bs k) line (follower bs m)) most
        (subst (λ (m : ℕ). Advances (follower bs m) line (follower bs (n + 1))) same
        (next_to n b at))

  -- a batch after the next one is not followed
  pub waits : (k n : ℕ) (b : BatchValue) → slice_get accepted n ≡ Some b → k < n →
      line_outcome (follower bs k) (numbered (n + 1) (batch_text b)) ≡ Err not_next
  waits k n b at less =
      let s = follower bs k in
      let low = get_low accepted n b at in
      let count = count_at opening_state accepted in_turn k (omega (arith, low, less)) in
      let zero_more = none_first in
      let made = All-take IsSoundBatch k accepted
      (all_accepted IsSoundBatch opening_state bs w) in
      let sound : IsState s = all_sound opening_state (take k accepted) opening_sound made in
      let fewer : len s.keys + 1 < n + 1 = omega (arith, count, zero_more, less) in
      let other : (n + 1 == len s.keys + 1) ≡ false = grind (arith, nat_tests) in
      let under = other_serial (n + 1) (get s.keys b.key) (λ kept found.
      let most = sound.to_count b.key kept found in omega (arith, most, fewer)) in
      numbered_waits s (n + 1) b (writable_at n b at) (neither _ _ other under)

  lines_are : journal (after_all opening_state bs) ≡ map batch_text accepted
  lines_are = from_opening bs w

  -- a line of the journal is that of an accepted batch
  pub line_at : (n : ℕ) (line : Line) →
      slice_get (journal_lines (after_all opening_state bs)) n ≡ Some line →
      (b : BatchValue) × (slice_get accepted n ≡ Some b)
      × (line ≡ numbered (n + 1) (batch_text b))
  line_at n line at =
      let it = numbered_at 0 (journal (after_all opening_state bs)) n line at in
      let found = get_map batch_text accepted n it.0
      (sym (ap (λ (ts : List Text). slice_get ts n) lines_are) ∙ it.1) in
      let serial : 0 + n + 1 ≡ n + 1 = omega arith in (
        found.0,
        found.1,
        it.2 ∙ (ap (λ (m : ℕ). numbered m it.0) serial ∙ ap (numbered (n + 1)) found.2),
      )

  -- lines in order, from one that the follower has or the next one on
  goes : (rest : List BatchValue) (n k : ℕ) →
      ((i : ℕ) (b : BatchValue) → slice_get rest i ≡ Some b → slice_get accepted (n + i) ≡ Some b) →
      n ≤ k →
      Arrives (follow (follower bs k) (numbered_after n (map batch_text rest)))
      (follower bs (max k (n + length rest)))
  goes [] n k at low =
      let most : k ≡ max k (n + 0) = omega (arith, low) in
      record { there = ap (follower bs) most; whole = refl }
  goes (b ∷ rest) n k at low =
      let here : n + 0 ≡ n = omega arith in
      let found : slice_get accepted n ≡ Some b =
      sym (ap (slice_get accepted) here) ∙ at 0 b refl in
      let one = advances k n b found low in
      let more = goes rest (n + 1) (max k (n + 1)) (λ i c is.
      let next : n + suc i ≡ n + 1 + i = omega arith in
      sym (ap (slice_get accepted) next) ∙ at (suc i) c is) (omega arith) in
      let last : max (max k (n + 1)) (n + 1 + length rest) ≡ max k (n + suc (length rest)) =
      omega arith in
      let on = λ (t : State). follow t (numbered_after (n + 1) (map batch_text rest)) in
      let end = follower bs (max k (n + suc (length rest))) in
      let then : Arrives (on one.outcome.state) end =
      subst (λ (t : State). Arrives (on t) end) (sym one.there)
      (subst (λ (m : ℕ). Arrives (on (follower bs (max k (n + 1)))) (follower bs m)) last more)
      in
      subst (λ (r : Result Outcome LineFault). Arrives (goes_on (follower bs k) r on) end)
      (sym one.is) (record { there = then.there; whole = then.whole })

  between_are : (j m : ℕ) →
      lines_between bs j m ≡ numbered_after j (map batch_text (drop j (take m accepted)))
  between_are j m =
      let zero_more : 0 + j ≡ j = omega arith in
      ap (λ (ts : List Text). drop j (take m (numbered_after 0 ts))) lines_are
      ∙ (ap (drop j) (take-numbered m 0 (map batch_text accepted))
      ∙ (drop-numbered j 0 (take m (map batch_text accepted))
      ∙ (ap (λ (n : ℕ). numbered_after n (drop j (take m (map batch_text accepted)))) zero_more
      ∙ ap (numbered_after j) (ap (drop j) (take-map batch_text m accepted)
      ∙ drop-map batch_text j (take m accepted)))))

  past_all : (m : ℕ) → length accepted ≤ m → follower bs m ≡ after_all opening_state accepted
  past_all m high = ap (after_all opening_state) (take_all m accepted high)

  pub go_on : (k j m : ℕ) → j ≤ k →
      Arrives (follow (follower bs k) (lines_between bs j m)) (follower bs (max k m))
  go_on k j m low = by (cases_lt (length accepted) m) where
    rest : List BatchValue
    rest = drop j (take m accepted)

    size : length (drop j (take m accepted)) ≡ min m (length accepted) - j
    size =
        length-drop j (take m accepted) ∙ ap (λ (n : ℕ). n - j) (length-take m accepted)

    came : Arrives (follow (follower bs k) (lines_between bs j m))
        (follower bs (max k (j + length (drop j (take m accepted)))))
    came =
        subst (λ (ls : List Line). Arrives (follow (follower bs k) ls)
        (follower bs (max k (j + length (drop j (take m accepted))))))
        (sym (between_are j m))
        (goes (drop j (take m accepted)) j k (λ i b is. get_taken m accepted (j + i) b
        (sym (get_drop j (take m accepted) i) ∙ is)) low)

    to : (n : ℕ) → follower bs (max k (j + length (drop j (take m accepted)))) ≡ follower bs n →
        Arrives (follow (follower bs k) (lines_between bs j m)) (follower bs n)
    to n same = record { there = came.there ∙ same; whole = came.whole }

    by : (length accepted < m) ⊎ (m ≤ length accepted) →
        Arrives (follow (follower bs k) (lines_between bs j m)) (follower bs (max k m))
    by (inl past) =
        to (max k m) (past_all _ (omega (arith, size, past, low))
        ∙ sym (past_all (max k m) (omega (arith, past))))
    by (inr within) =
        let same : max k (j + length (drop j (take m accepted))) ≡ max k m =
        omega (arith, size, within, low) in
        to (max k m) (ap (follower bs) same)

pub followers_go_on : FollowersGoOn
followers_go_on bs k j m w low = go_on bs w k j m low

pub lines_come_in_order : LinesComeInOrder
lines_come_in_order bs k n line w at =
    let it = line_at bs w n line at in
    let one = numbered (n + 1) (batch_text it.0) in (
      λ low. (let goes = advances bs w k n it.0 it.1 low in
          subst (λ (l : Line). Arrives (follow (follower bs k) (l ∷ []))
          (follower bs (max k (n + 1)))) (sym it.2)
          (subst (λ (r : Result Outcome LineFault).
          Arrives (goes_on (follower bs k) r (λ t. follow t []))
          (follower bs (max k (n + 1)))) (sym goes.is)
          (record { there = goes.there; whole = refl }))),
      λ high. ap (line_outcome (follower bs k)) it.2 ∙ waits bs w k n it.0 it.1 high,
    )

none_of : {A : Type 0} (k : ℕ) → take k (let xs : List A = [] in xs) ≡ []
none_of zero = refl
none_of (suc k) = refl

-- ---- prefixes

abbrev Begins : State → List BatchValue → State → Type 0
Begins s bs t = (n : ℕ) × (n ≤ length bs) × (t ≡ after_all s (take n bs))

later : (s : State) (b : BatchValue) (bs : List BatchValue) (t : State) →
    Begins (act s b).state bs t → Begins s (b ∷ bs) t
later s b bs t h = (suc h.0, omega (arith, h.1), h.2)

begins_by : (s : State) (b : BatchValue) (bs rest : List BatchValue) (k : ℕ) →
    ((n : ℕ) → Begins (act s b).state bs (after_all (act s b).state (take n rest)))
    → (t : Bool) → is_accepted (act s b).reply ≡ t →
    Begins s (b ∷ bs) (after_all s (take (suc k) (cond t (b ∷ rest) rest)))
begins_by s b bs rest k begins true e = later s b bs _ (begins k)
begins_by s b bs rest k begins false e =
    later s b bs _ (subst (λ (u : State). Begins (act s b).state bs
    (after_all u (take (suc k) rest))) (act_stays s b e) (begins (suc k)))

begins : (s : State) (bs : List BatchValue) (k : ℕ) →
    Begins s bs (after_all s (take k (accepted_of s bs)))
begins s [] k = (0, omega arith, ap (after_all s) (none_of k))
begins s (b ∷ bs) zero = (0, omega arith, refl)
begins s (b ∷ bs) (suc k) =
    begins_by s b bs (accepted_of (act s b).state bs) k (λ n. begins (act s b).state bs n)
    (is_accepted (act s b).reply) refl

pub followers_are_beginnings : FollowersAreBeginnings
followers_are_beginnings bs k = begins opening_state bs k

pub followers_arrive : FollowersArrive
followers_arrive bs k w most =
    let accepted = accepted_of opening_state bs in
    let as_many = ap length (from_opening bs w) ∙ length-map accepted batch_text in
    ap (after_all opening_state) (take_all k accepted (omega (arith, most, as_many)))
    ∙ sym (accepted_are_enough.0 opening_state bs)
