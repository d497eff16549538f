-- A repeated batch finds its key, and changes nothing.
use Rattle.std.proofs.Common.{◌≡◌, ℕ, ◌+◌, List, [], ◌∷◌, ◌++◌, Bool, true, false, cond, Option, None, Some, Result, Ok, Err, IfOk, ok_or, refl, sym, ap, subst}
use Rattle.std.proofs.Common.{◌∙◌, nat_eq, nat_lt}
use Rattle.std.specs.Ordering.{is_eq}
use Rattle.std.specs.declared.cmp.Ordering.{Ordering}
use Rattle.std.specs.declared.cmp.Ordering.TheVariants.{Less, Equal, Greater}
use Rattle.std.specs.Cmp.Lexicographic.{pointwise, nat_list_cmp_total, nat_list_eq_equiv}
use Rattle.std.specs.FinMap.{get, len, get-insert, get_tied}
use Rattle.std.proofs.lemmas.Cmp.{tied_itself}
use Rattle.streetmap_batch.specs.Text.{Text, text_cmp}
use Rattle.streetmap_batch.specs.BatchValue as edit
use Rattle.streetmap_batch.specs.BatchValue.{EditValue, BatchValue}
use Rattle.streetmap_batch.specs.BatchText.{batch_text}
use Rattle.streetmap_ledger.specs.State.{State, AcceptedBatch, step, absent, timed, ◌>>=◌}
use Rattle.streetmap_ledger.specs.Batches.{Outcome, placed, edited, fresh, by_key, kept_for, act, after_all, most_batches}
use Rattle.streetmap_ledger.specs.Laws.{IsAcknowledged, RepeatActsOnce}
use Rattle.streetmap_ledger.specs.declared.reply.Refusal.{Refusal}
use Rattle.streetmap_ledger.specs.declared.reply.Refusal.TheVariants.{NoCollection, CollectionExists, FeatureExists, NoFeature}

-- what holds of both arms holds of the choice
pub either : {A : Type 0} (P : A → Type 0) (t : Bool) (x y : A) → P x → P y → P (cond t x y)
either P true x y p q = p
either P false x y p q = q

-- an edit leaves the keys as they were
abbrev pub KeysStay : State → Result State Refusal → Type 0
KeysStay s r = IfOk r (λ t. t.keys ≡ s.keys)

if_done : {A : Type 0} (s : State) (r : Result A Refusal) (next : A → Result State Refusal) → ((x : A) → KeysStay s (next x)) → KeysStay s (r >>= next)
if_done s (Ok x) next stay = stay x
if_done s (Err why) next stay = tt

pub step_keys : (s : State) (e : EditValue) → KeysStay s (step s e)
step_keys s (edit.«open» name title time) = if_done s (absent (get s.collections name) CollectionExists) _ (λ new. refl)
step_keys s (edit.insert name f) = if_done s (ok_or (get s.collections name) NoCollection) _
    (λ c. if_done s (absent (get c.features f.id) FeatureExists) _ (λ new. if_done s (timed c.time f) _ (λ g. refl)))
step_keys s (edit.replace name f) = if_done s (ok_or (get s.collections name) NoCollection) _
    (λ c. if_done s (ok_or (get c.features f.id) NoFeature) _ (λ old. if_done s (timed c.time f) _ (λ g. refl)))
step_keys s (edit.delete name id) = if_done s (ok_or (get s.collections name) NoCollection) _
    (λ c. if_done s (ok_or (get c.features id) NoFeature) _ (λ old. refl))

through : (s t : State) (r : Result State (ℕ × Refusal)) → t.keys ≡ s.keys → IfOk r (λ u. u.keys ≡ t.keys) → IfOk r (λ u. u.keys ≡ s.keys)
through s t (Err e) same h = tt
through s t (Ok u) same h = h ∙ same

then_keys : (s : State) (place : ℕ) (r : Result State Refusal) (next : State → Result State (ℕ × Refusal)) → KeysStay s r →
    ((t : State) → IfOk (next t) (λ u. u.keys ≡ t.keys)) → IfOk (placed place r >>= next) (λ u. u.keys ≡ s.keys)
then_keys s place (Err why) next h f = tt
then_keys s place (Ok t) next h f = through s t (next t) h (f t)

pub edited_keys : (place : ℕ) (s : State) (es : List EditValue) → IfOk (edited place s es) (λ u. u.keys ≡ s.keys)
edited_keys place s [] = refl
edited_keys place s (e ∷ es) = then_keys s place (step s e) _ (step_keys s e) (λ t. edited_keys (place + 1) t es)

none_some : {A : Type 0} {B : Type 0} (x : A) → None ≡ Some x → B
none_some x e = cc

-- a key that is present stays present, whatever is accepted
fresh_keeps : (s : State) (b : BatchValue) (k : Text) (kept : AcceptedBatch) (serial : ℕ) → get s.keys k ≡ Some kept → get s.keys b.key ≡ None →
    (r : Result State (ℕ × Refusal)) → IfOk r (λ t. t.keys ≡ s.keys) → get (fresh s b serial r).state.keys k ≡ Some kept
fresh_keeps s b k kept serial h none (Err e) same = h
fresh_keeps s b k kept serial h none (Ok t) same = get-insert nat_list_cmp_total t.keys b.key (kept_for b serial) k ∙ other (text_cmp k b.key) refl where
  here : get t.keys k ≡ Some kept
  here = ap (λ m. get m k) same ∙ h

  other : (q : Ordering) → text_cmp k b.key ≡ q → cond (is_eq q) (Some (kept_for b serial)) (get t.keys k) ≡ Some kept
  other Less e = here
  other Greater e = here
  other Equal e = none_some kept (sym none ∙ (get_tied nat_list_cmp_total s.keys k b.key e ∙ h))

by_key_keeps : (s : State) (b : BatchValue) (k : Text) (kept : AcceptedBatch) → get s.keys k ≡ Some kept → (o : Option AcceptedBatch) → get s.keys b.key ≡ o →
    get (by_key s b o).state.keys k ≡ Some kept
by_key_keeps s b k kept h (Some old) e = either (λ (o : Outcome). get o.state.keys k ≡ Some kept) (pointwise nat_eq old.text (batch_text b)) _ _ h h
by_key_keeps s b k kept h None e = either (λ (o : Outcome). get o.state.keys k ≡ Some kept) (nat_lt (len s.keys) most_batches) _ _
    (fresh_keeps s b k kept _ h e (edited 1 s b.edits) (edited_keys 1 s b.edits)) h

pub act_keeps : (s : State) (b : BatchValue) (k : Text) (kept : AcceptedBatch) → get s.keys k ≡ Some kept → get (act s b).state.keys k ≡ Some kept
act_keeps s b k kept h = by_key_keeps s b k kept h (get s.keys b.key) refl

pub all_keep : (s : State) (bs : List BatchValue) (k : Text) (kept : AcceptedBatch) → get s.keys k ≡ Some kept → get (after_all s bs).keys k ≡ Some kept
all_keep s [] k kept h = h
all_keep s (b ∷ bs) k kept h = all_keep (act s b).state bs k kept (act_keeps s b k kept h)

-- the batch is present under its key, with its text
abbrev pub IsThere : State → BatchValue → Type 0
IsThere s b = (kept : AcceptedBatch) × (get s.keys b.key ≡ Some kept) × (pointwise nat_eq kept.text (batch_text b) ≡ true)

fresh_there : (s : State) (b : BatchValue) (serial : ℕ) (r : Result State (ℕ × Refusal)) → IsAcknowledged (fresh s b serial r).reply →
    IsThere (fresh s b serial r).state b
fresh_there s b serial (Err e) h = absurd h
fresh_there s b serial (Ok t) h = (
  kept_for b serial,
  get-insert nat_list_cmp_total t.keys b.key (kept_for b serial) b.key
      ∙ ap (λ q. cond (is_eq q) (Some (kept_for b serial)) (get t.keys b.key)) (tied_itself nat_list_cmp_total b.key),
  nat_list_eq_equiv.refl (batch_text b),
)

-- an acknowledgement of a choice is one of the arm that was taken
chosen : (s : State) (b : BatchValue) (t : Bool) (x y : Outcome) → (t ≡ true → IsAcknowledged x.reply → IsThere x.state b) →
    (IsAcknowledged y.reply → IsThere y.state b) → IsAcknowledged (cond t x y).reply → IsThere (cond t x y).state b
chosen s b true x y f g h = f refl h
chosen s b false x y f g h = g h

by_key_there : (s : State) (b : BatchValue) (o : Option AcceptedBatch) → get s.keys b.key ≡ o → IsAcknowledged (by_key s b o).reply →
    IsThere (by_key s b o).state b
by_key_there s b (Some old) e h = chosen s b (pointwise nat_eq old.text (batch_text b)) _ _ (λ same ack. (old, e, same)) (λ no. absurd no) h
by_key_there s b None e h = chosen s b (nat_lt (len s.keys) most_batches) _ _ (λ less ack. fresh_there s b _ (edited 1 s b.edits) ack) (λ no. absurd no) h

-- a batch that is present changes nothing
pub again : (s : State) (b : BatchValue) → IsThere s b → (act s b).state ≡ s
again s b there =
    ap (λ o. (by_key s b o).state) there.1 ∙ either (λ (o : Outcome). o.state ≡ s) (pointwise nat_eq there.0.text (batch_text b)) _ _ refl refl

pub after_append : (s : State) (xs ys : List BatchValue) → after_all s (xs ++ ys) ≡ after_all (after_all s xs) ys
after_append s [] ys = refl
after_append s (x ∷ xs) ys = after_append (act s x).state xs ys

pub repeat_once : RepeatActsOnce
repeat_once s before between later b ack =
    let t = after_all s before in
    let u = (act t b).state in
    let there = by_key_there t b (get t.keys b.key) refl ack in
    let later_there : IsThere (after_all u between) b = (there.0, all_keep u between b.key there.0 there.1, there.2) in
    after_append s before (b ∷ (between ++ b ∷ later)) ∙ after_append u between (b ∷ later)
    ∙ ap (λ v. after_all v later) (again (after_all u between) b later_there)
    ∙ sym (after_append s before (b ∷ (between ++ later)) ∙ after_append u between later)

-- an acknowledged batch is present
pub acknowledged_there : (s : State) (b : BatchValue) → IsAcknowledged (act s b).reply → IsThere (act s b).state b
acknowledged_there s b ack = by_key_there s b (get s.keys b.key) refl ack

chosen_ack : (t : Bool) (x y : Outcome) → t ≡ true → IsAcknowledged x.reply → IsAcknowledged (cond t x y).reply
chosen_ack true x y e h = h
chosen_ack false x y e h = cc

-- and a batch that is present is acknowledged
pub there_again : (s : State) (b : BatchValue) → IsThere s b → IsAcknowledged (act s b).reply
there_again s b there = subst (λ (o : Option AcceptedBatch). IsAcknowledged (by_key s b o).reply) (sym there.1)
    (chosen_ack (pointwise nat_eq there.0.text (batch_text b)) _ _ there.2 tt)
