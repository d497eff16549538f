-- Batches that are accepted one after the other, and their serials.
use Rattle.std.proofs.Common.{◌≡◌, ℕ, zero, suc, ◌+◌, ◌<◌, ◌≤◌, List, [], ◌∷◌, length, take}
use Rattle.std.proofs.Common.{Bool, true, false, cond, All, Option, None, Some, Result, Ok, Err}
use Rattle.std.proofs.Common.{IfOk}
use Rattle.std.proofs.Common.{refl, ap, subst, ◌∙◌, is_some, nat_eq, nat_lt, arith}
use Rattle.std.specs.Prelude.{slice_get}
use Rattle.std.specs.Ordering.{is_eq}
use Rattle.std.specs.Cmp.Lexicographic.{pointwise, nat_list_cmp_total}
use Rattle.std.specs.FinMap.{get, insert, len, get-insert, len-insert}
use Rattle.std.proofs.lemmas.Cmp.{tied_itself}
use Rattle.std.proofs.lemmas.List.Elements.{All-head, All-tail}
use Rattle.streetmap_batch.specs.BatchFacts.{IsSoundBatch}
use Rattle.streetmap_batch.specs.BatchText.{batch_text}
use Rattle.streetmap_batch.specs.BatchValue.{BatchValue}
use Rattle.streetmap_ledger.specs.State.{State, AcceptedBatch}
use Rattle.streetmap_ledger.specs.Batches.{Outcome, edited, fresh, by_key, kept_for, act, after_all}
use Rattle.streetmap_ledger.specs.Batches.{most_batches}
use Rattle.streetmap_ledger.specs.Laws.{is_accepted, accepted_of}
use Rattle.streetmap_ledger.specs.WellFormed.{IsState}
use Rattle.streetmap_ledger.specs.declared.reply.Refusal.{Refusal}
use Rattle.streetmap_ledger.proofs.Repeat.{edited_keys, all_keep}
use Rattle.streetmap_ledger.proofs.StatesStay.{act_sound}
use Rattle.streetmap_replay.proofs.Texts.{Kept}
use Rattle.streetmap_replay.proofs.RepeatedBatches.{act_stays}

-- ---- one batch

-- a batch with a new key is kept under the next serial
pub record IsAdded (s : State) (b : BatchValue) (o : Outcome) : Type 0 where
  pub new : get s.keys b.key ≡ None
  pub more : len o.state.keys ≡ len s.keys + 1
  pub kept : get o.state.keys b.key ≡ Some (kept_for b (len s.keys + 1))

fresh_added : (s : State) (b : BatchValue) → get s.keys b.key ≡ None →
    (r : Result State (ℕ × Refusal)) → IfOk r (λ t. t.keys ≡ s.keys) →
    is_accepted (fresh s b (len s.keys + 1) r).reply ≡ true →
    IsAdded s b (fresh s b (len s.keys + 1) r)
fresh_added s b none (Err e) same accepted = absurd cc
fresh_added s b none (Ok t) same accepted =
    let k = kept_for b (len s.keys + 1) in
    record {
      new = none;
      more = ap (λ (m : Kept). len (insert m b.key k)) same
          ∙ (len-insert nat_list_cmp_total s.keys b.key k
          ∙ ap (λ (o : Option AcceptedBatch). cond (is_some o) (len s.keys) (len s.keys + 1)) none);
      kept = get-insert nat_list_cmp_total t.keys b.key k b.key
          ∙ ap (λ q. cond (is_eq q) (Some k) (get t.keys b.key))
          (tied_itself nat_list_cmp_total b.key);
    }

chosen : (P : Outcome → Type 0) (t : Bool) (x y : Outcome) →
    (is_accepted x.reply ≡ true → P x) → (is_accepted y.reply ≡ true → P y) →
    is_accepted (cond t x y).reply ≡ true → P (cond t x y)
chosen P true x y f g h = f h
chosen P false x y f g h = g h

by_key_added : (s : State) (b : BatchValue) (o : Option AcceptedBatch) → get s.keys b.key ≡ o →
    is_accepted (by_key s b o).reply ≡ true → IsAdded s b (by_key s b o)
by_key_added s b (Some kept) e h =
    chosen (IsAdded s b) (pointwise nat_eq kept.text (batch_text b)) _ _ (λ no. absurd cc)
    (λ no. absurd cc) h
by_key_added s b None e h =
    chosen (IsAdded s b) (nat_lt (len s.keys) most_batches) _ _
    (fresh_added s b e (edited 1 s b.edits) (edited_keys 1 s b.edits)) (λ no. absurd cc) h

pub added : (s : State) (b : BatchValue) → is_accepted (act s b).reply ≡ true →
    IsAdded s b (act s b)
added s b h = by_key_added s b (get s.keys b.key) refl h

-- ---- one after the other

-- each is accepted in the state that the ones before it left
abbrev pub AreAccepted : State → List BatchValue → Type 0
AreAccepted s [] = Unit {0}
AreAccepted s (b ∷ bs) = (is_accepted (act s b).reply ≡ true) × AreAccepted (act s b).state bs

accepted_by : (s : State) (b : BatchValue) (rest : List BatchValue) →
    AreAccepted (act s b).state rest → (t : Bool) → is_accepted (act s b).reply ≡ t →
    AreAccepted s (cond t (b ∷ rest) rest)
accepted_by s b rest h true e = (e, h)
accepted_by s b rest h false e = subst (λ (u : State). AreAccepted u rest) (act_stays s b e) h

pub are_accepted : (s : State) (bs : List BatchValue) → AreAccepted s (accepted_of s bs)
are_accepted s [] = tt
are_accepted s (b ∷ bs) =
    accepted_by s b (accepted_of (act s b).state bs) (are_accepted (act s b).state bs)
    (is_accepted (act s b).reply) refl

-- after the first k, the i-th of them is kept, under its serial
pub there_at : (s : State) (bs : List BatchValue) → AreAccepted s bs → (i k : ℕ) (b : BatchValue) →
    slice_get bs i ≡ Some b → i < k →
    get (after_all s (take k bs)).keys b.key ≡ Some (kept_for b (len s.keys + i + 1))
there_at s [] h i k b at low = absurd cc
there_at s (x ∷ xs) h i zero b at low = absurd (omega (arith, low))
there_at s (x ∷ xs) h zero (suc k) b at low =
    let same : x ≡ b = cc in
    let serial : len s.keys + 1 ≡ len s.keys + 0 + 1 = omega arith in
    let t = (act s x).state in
    subst (λ (y : BatchValue). get (after_all t (take k xs)).keys y.key
    ≡ Some (kept_for y (len s.keys + 0 + 1))) same
    (all_keep t (take k xs) x.key (kept_for x (len s.keys + 1)) (added s x h.0).kept
    ∙ ap (λ (n : ℕ). Some (kept_for x n)) serial)
there_at s (x ∷ xs) h (suc i) (suc k) b at low =
    let t = (act s x).state in
    let rest = there_at t xs h.1 i k b at (omega (arith, low)) in
    let more = (added s x h.0).more in
    let serial : len t.keys + i + 1 ≡ len s.keys + suc i + 1 = omega (arith, more) in
    rest ∙ ap (λ (n : ℕ). Some (kept_for b n)) serial

-- after the first k, the next is accepted
pub next_at : (s : State) (bs : List BatchValue) → AreAccepted s bs → (k : ℕ) (b : BatchValue) →
    slice_get bs k ≡ Some b →
    (is_accepted (act (after_all s (take k bs)) b).reply ≡ true)
    × ((act (after_all s (take k bs)) b).state ≡ after_all s (take (suc k) bs))
next_at s [] h k b at = absurd cc
next_at s (x ∷ xs) h zero b at =
    let same : x ≡ b = cc in
    subst (λ (y : BatchValue). (is_accepted (act s y).reply ≡ true)
    × ((act s y).state ≡ (act s x).state)) same (h.0, refl)
next_at s (x ∷ xs) h (suc k) b at = next_at (act s x).state xs h.1 k b at

-- after the first k, k more are kept
pub count_at : (s : State) (bs : List BatchValue) → AreAccepted s bs → (k : ℕ) → k ≤ length bs →
    len (after_all s (take k bs)).keys ≡ len s.keys + k
count_at s bs h zero low = omega arith
count_at s [] h (suc k) low = absurd (omega (arith, low))
count_at s (x ∷ xs) h (suc k) low =
    let rest = count_at (act s x).state xs h.1 k (omega (arith, low)) in
    let more = (added s x h.0).more in
    omega (arith, rest, more)

pub all_sound : (s : State) (bs : List BatchValue) → IsState s → All IsSoundBatch bs →
    IsState (after_all s bs)
all_sound s [] sound made = sound
all_sound s (b ∷ bs) sound made =
    all_sound (act s b).state bs (act_sound s b sound (All-head IsSoundBatch b bs made))
    (All-tail IsSoundBatch b bs made)
