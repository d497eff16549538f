-- If a text does not reproduce its batch, the state is not its own replay.
use Rattle.std.proofs.Common.{◌≡◌, ℕ, zero, suc, ◌+◌, ◌≤◌, Bool, true, cond, List}
use Rattle.std.proofs.Common.{[], ◌∷◌, ◌++◌, length, map, take, drop, Option, None, Some, Result, Ok}
use Rattle.std.proofs.Common.{Err, refl, sym, ap, subst, ◌∙◌, arith, length-drop}
use Rattle.std.specs.Prelude.{slice_get}
use Rattle.std.specs.FinMap.{get, len}
use Rattle.std.proofs.lemmas.List.{map-append}
use Rattle.streetmap_batch.specs.ParsedBatches.{batch_of}
use Rattle.streetmap_batch.specs.BatchValue.{BatchValue}
use Rattle.streetmap_batch.specs.Text.{Text}
use Rattle.streetmap_batch.specs.declared.batch_fault.BatchFault.{BatchFault}
use Rattle.streetmap_ledger.specs.Kept.{KeyedBatch, batch_in}
use Rattle.streetmap_ledger.proofs.Serials.{found_of as found_under_key, found_under}
use Rattle.streetmap_ledger.specs.Batches.{Outcome, act, kept_for}
use Rattle.streetmap_ledger.specs.Laws.{is_accepted}
use Rattle.streetmap_ledger.specs.State.{State, AcceptedBatch, opening_state}
use Rattle.streetmap_ledger.specs.WellFormed.{IsState}
use Rattle.streetmap_ledger.specs.declared.reply.Reply.{Reply}
use Rattle.streetmap_ledger.specs.declared.reply.Reply.TheVariants.{Accepted, Repeated, Refused}
use Rattle.streetmap_ledger.proofs.Repeat.{act_keeps}
use Rattle.streetmap_replay.specs.FollowedLines.{LineFault, Arrives, unless_refused, acted}
use Rattle.streetmap_replay.specs.FollowedLines.{line_outcome, goes_on, follow}
use Rattle.streetmap_replay.specs.Journal.{journal}
use Rattle.streetmap_replay.specs.Lines.{Line, bare}
use Rattle.streetmap_replay.specs.Replay.{Replays}
use Rattle.streetmap_replay.proofs.Accepted.{added}
use Rattle.streetmap_replay.proofs.AllThere.{journal_is_whole}
use Rattle.streetmap_replay.proofs.RepeatedBatches.{act_stays}
use Rattle.streetmap_replay.specs.Given.{found_of, given_by, given_again, BreaksAt, GivesFirst}
use Rattle.streetmap_replay.proofs.BatchesGivenAgain.{line_at}

no_fault : {A : Type 0} (why : LineFault) → Some why ≡ None → A
no_fault why e = absurd cc

-- ---- lines after lines

past_by : (s t u : State) (xs ys : List Line) →
    ((v : State) → Arrives (follow v xs) t → Arrives (follow v (xs ++ ys)) u →
    Arrives (follow t ys) u) → (r : Result Outcome LineFault) →
    Arrives (goes_on s r (λ v. follow v xs)) t →
    Arrives (goes_on s r (λ v. follow v (xs ++ ys))) u → Arrives (follow t ys) u
past_by s t u xs ys rest (Ok o) h k =
    rest o.state (record { there = h.there; whole = h.whole })
    (record { there = k.there; whole = k.whole })
past_by s t u xs ys rest (Err why) h k = no_fault why h.whole

follow_past : (xs ys : List Line) (t u s : State) → Arrives (follow s xs) t →
    Arrives (follow s (xs ++ ys)) u → Arrives (follow t ys) u
follow_past [] ys t u s h k = subst (λ (v : State). Arrives (follow v ys) u) h.there k
follow_past (x ∷ xs) ys t u s h k =
    past_by s t u xs ys (λ v. follow_past xs ys t u v) (line_outcome s x) h k

-- ---- what texts that are followed add

-- what was kept is kept, and at most n more
record Grows (v u : State) (n : ℕ) : Type 0 where
  keep : (key : Text) (k : AcceptedBatch) → get v.keys key ≡ Some k → get u.keys key ≡ Some k
  few : len u.keys ≤ len v.keys + n

abbrev Later : State → List Text → Type 0
Later u texts = (v : State) → Arrives (follow v (map bare texts)) u → Grows v u (length texts)

grows_reported : (v u : State) (b : BatchValue) (texts : List Text) → Later u texts → (r : Reply) →
    (act v b).reply ≡ r →
    Arrives (goes_on v (unless_refused (act v b).state r) (λ w. follow w (map bare texts))) u →
    Grows v u (suc (length texts))
grows_reported v u b texts later (Accepted counts serial) e h =
    let rest = later (act v b).state (record { there = h.there; whole = h.whole }) in
    let more = (added v b (ap is_accepted e)).more in
    let few = rest.few in
    record {
      keep = λ key k found. rest.keep key k (act_keeps v b key k found);
      few = omega (arith, few, more);
    }
grows_reported v u b texts later (Repeated counts serial) e h =
    let rest = later (act v b).state (record { there = h.there; whole = h.whole }) in
    let same = ap (λ (w : State). len w.keys) (act_stays v b (ap is_accepted e)) in
    let few = rest.few in
    record {
      keep = λ key k found. rest.keep key k (act_keeps v b key k found);
      few = omega (arith, few, same);
    }
grows_reported v u b texts later (Refused why place) e h = no_fault _ h.whole

grows_by : (v u : State) (texts : List Text) → Later u texts →
    (r : Result BatchValue BatchFault) →
    Arrives (goes_on v (acted v r) (λ w. follow w (map bare texts))) u →
    Grows v u (suc (length texts))
grows_by v u texts later (Ok b) h = grows_reported v u b texts later (act v b).reply refl h
grows_by v u texts later (Err fault) h = no_fault _ h.whole

grows : (u : State) (texts : List Text) → Later u texts
grows u [] v h = record {
  keep = λ key k found. ap (λ (w : State). get w.keys key) (sym h.there) ∙ found;
  few = (let same = ap (λ (w : State). len w.keys) h.there in omega (arith, same));
}
grows u (text ∷ texts) v h = grows_by v u texts (grows u texts) (batch_of text) h

-- ---- the whole journal

cut_line : {A : Type 0} (n : ℕ) (xs : List A) (x : A) → slice_get xs n ≡ Some x →
    xs ≡ take n xs ++ x ∷ drop (suc n) xs
cut_line n [] x h = absurd cc
cut_line zero (y ∷ ys) x h = let same : y ≡ x = cc in ap (λ z. z ∷ ys) same
cut_line (suc n) (y ∷ ys) x h = ap (λ l. y ∷ l) (cut_line n ys x h)

module _ (s : State) (sound : IsState s) (n : ℕ) (t : State) (first : GivesFirst s n t)
    (batch : KeyedBatch) (there : batch_in s (n + 1) ≡ Some batch) (replays : Replays s) where
  rest : List Text
  rest = drop (suc n) (journal s)

  rest_follows : Arrives (follow t (bare batch.1.text ∷ map bare (drop (suc n) (journal s)))) s
  rest_follows =
      let cut = cut_line n (journal s) batch.1.text (line_at s sound n batch there) in
      let lines = ap (map bare) cut
      ∙ map-append bare (take n (journal s)) (batch.1.text ∷ drop (suc n) (journal s)) in
      follow_past (map bare (take n (journal s)))
      (bare batch.1.text ∷ map bare (drop (suc n) (journal s))) t s opening_state first.followed
      (subst (λ (ls : List Line). Arrives (follow opening_state ls) s) lines replays)

  reported : (b : BatchValue) → (given_by t (Some b) ≡ Some batch → ⊥) → (r : Reply) →
      (act t b).reply ≡ r →
      Arrives (goes_on t (unless_refused (act t b).state r)
      (λ w. follow w (map bare (drop (suc n) (journal s))))) s → ⊥
  reported b other (Accepted counts serial) e h =
      let e_accepted : is_accepted (act t b).reply ≡ true = ap is_accepted e in
      let it = added t b e_accepted in
      let k = kept_for b (len t.keys + 1) in
      let more = grows s (drop (suc n) (journal s)) (act t b).state
      (record { there = h.there; whole = h.whole }) in
      let found = more.keep b.key k it.kept in
      let count = first.count in
      let serial_is : len t.keys + 1 ≡ n + 1 = omega (arith, count) in
      let both : Some batch ≡ Some (b.key, k) =
      sym there ∙ (sym (ap (batch_in s) serial_is) ∙ found_under_key s b.key k sound found) in
      let given : given_by t (Some b) ≡ Some (b.key, k) =
      ap (λ (r : Bool). cond {A = Option KeyedBatch} r (Some (b.key, k)) None) e_accepted in
      other (given ∙ sym both)
  reported b other (Repeated counts serial) e h =
      let more = grows s (drop (suc n) (journal s)) (act t b).state
      (record { there = h.there; whole = h.whole }) in
      let few = more.few in
      let same = ap (λ (w : State). len w.keys) (act_stays t b (ap is_accepted e)) in
      let size = length-drop (suc n) (journal s) in
      let long = (journal_is_whole s sound).0 in
      let count = first.count in
      let under = found_under s (n + 1) batch there in
      let most = sound.to_count batch.0 batch.1 under.0 in
      let serial_is = under.1 in
      absurd (omega (arith, few, same, size, long, count, most, serial_is))
  reported b other (Refused why place) e h = no_fault _ h.whole

  by : (r : Result BatchValue BatchFault) → (given_by t (found_of r) ≡ Some batch → ⊥) →
      Arrives (goes_on t (acted t r) (λ w. follow w (map bare (drop (suc n) (journal s))))) s → ⊥
  by (Ok b) other h = reported b other (act t b).reply refl h
  by (Err fault) other h = no_fault _ h.whole

  pub refuted : (given_again t batch ≡ Some batch → ⊥) → ⊥
  refuted other = by (batch_of batch.1.text) other rest_follows

pub stop_refutes : (s : State) (serial : ℕ) → IsState s → BreaksAt s serial → Replays s → ⊥
stop_refutes s serial sound it replays =
    refuted s sound it.before it.state it.first it.batch (sym (ap (batch_in s) it.next) ∙ it.there)
    replays it.other
