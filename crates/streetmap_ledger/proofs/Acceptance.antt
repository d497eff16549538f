-- What accepted, repeated and refused batches do to the state.
use Rattle.std.proofs.Common.{◌≡◌, ℕ, ◌+◌, List, [], ◌∷◌, Bool, true, false, cond, Option, None, Some, Result, Ok, Err, refl, ap, subst, ◌∙◌, nat_eq, nat_lt}
use Rattle.std.specs.Cmp.Lexicographic.{pointwise}
use Rattle.std.specs.FinMap.{get, len}
use Rattle.streetmap_batch.specs.BatchValue.{BatchValue}
use Rattle.streetmap_batch.specs.BatchText.{batch_text}
use Rattle.streetmap_ledger.specs.State.{State, AcceptedBatch}
use Rattle.streetmap_ledger.specs.Batches.{Outcome, edited, fresh, by_key, act, after_all, most_batches}
use Rattle.streetmap_ledger.specs.Laws.{is_accepted, accepted_of, AcceptedAreEnough, RefusedChangesNothing}
use Rattle.streetmap_ledger.specs.declared.reply.Refusal.{Refusal}
use Rattle.streetmap_ledger.specs.declared.reply.Reply.TheVariants.{Repeated, Refused}
use Rattle.streetmap_ledger.proofs.Repeat.{either}

-- what is not accepted changes nothing
abbrev Stays : State → Outcome → Type 0
Stays s o = is_accepted o.reply ≡ false → o.state ≡ s

pub fresh_stays : (s : State) (b : BatchValue) (serial : ℕ) (r : Result State (ℕ × Refusal)) → Stays s (fresh s b serial r)
fresh_stays s b serial (Ok t) fails = cc
fresh_stays s b serial (Err e) fails = refl

pub by_key_stays : (s : State) (b : BatchValue) (o : Option AcceptedBatch) → Stays s (by_key s b o)
by_key_stays s b (Some kept) = either (Stays s) (pointwise nat_eq kept.text (batch_text b)) _ _ (λ fails. refl) (λ fails. refl)
by_key_stays s b None = either (Stays s) (nat_lt (len s.keys) most_batches) _ _ (fresh_stays s b (len s.keys + 1) (edited 1 s b.edits)) (λ fails. refl)

act_stays : (s : State) (b : BatchValue) → Stays s (act s b)
act_stays s b = by_key_stays s b (get s.keys b.key)

enough_by : (s : State) (b : BatchValue) (bs rest : List BatchValue) → after_all (act s b).state bs ≡ after_all (act s b).state rest → (t : Bool) →
    is_accepted (act s b).reply ≡ t → after_all (act s b).state bs ≡ after_all s (cond t (b ∷ rest) rest)
enough_by s b bs rest later true e = later
enough_by s b bs rest later false e = later ∙ ap (λ u. after_all u rest) (act_stays s b e)

enough : (s : State) (bs : List BatchValue) → after_all s bs ≡ after_all s (accepted_of s bs)
enough s [] = refl
enough s (b ∷ bs) = enough_by s b bs (accepted_of (act s b).state bs) (enough (act s b).state bs) (is_accepted (act s b).reply) refl

again_by : (s : State) (b : BatchValue) (rest : List BatchValue) → accepted_of (act s b).state rest ≡ rest → (t : Bool) → is_accepted (act s b).reply ≡ t →
    accepted_of s (cond t (b ∷ rest) rest) ≡ cond t (b ∷ rest) rest
again_by s b rest later true e = ap (λ t. cond t (b ∷ accepted_of (act s b).state rest) (accepted_of (act s b).state rest)) e ∙ ap (λ xs. b ∷ xs) later
again_by s b rest later false e = subst (λ u. accepted_of u rest ≡ rest) (act_stays s b e) later

again : (s : State) (bs : List BatchValue) → accepted_of s (accepted_of s bs) ≡ accepted_of s bs
again s [] = refl
again s (b ∷ bs) = again_by s b (accepted_of (act s b).state bs) (again (act s b).state bs) (is_accepted (act s b).reply) refl

pub accepted_are_enough : AcceptedAreEnough
accepted_are_enough = (enough, again)

-- a refusal leaves the state as it was, and a refused edit adds no key
abbrev Left : State → BatchValue → Outcome → Type 0
Left s b o = (why : Refusal) (place : Option ℕ) → o.reply ≡ Refused why place → (o.state ≡ s) × ((n : ℕ) → place ≡ Some n → get o.state.keys b.key ≡ None)

fresh_left : (s : State) (b : BatchValue) (serial : ℕ) (r : Result State (ℕ × Refusal)) → get s.keys b.key ≡ None → Left s b (fresh s b serial r)
fresh_left s b serial (Ok t) none why place e = cc
fresh_left s b serial (Err f) none why place e = (refl, λ n is. none)

no_place : (place : Option ℕ) (n : ℕ) {A : Type 0} → None ≡ place → place ≡ Some n → A
no_place place n e f = cc

refused_place : (x y : Refusal) (p q : Option ℕ) → Refused x p ≡ Refused y q → p ≡ q
refused_place x y p q e = cc

repeated_refused : {A : Type 0} (s : State) (kept : AcceptedBatch) (why : Refusal) (place : Option ℕ) → Repeated kept.counts kept.serial ≡ Refused why place → A
repeated_refused s kept why place e = cc

by_key_left : (s : State) (b : BatchValue) (o : Option AcceptedBatch) → get s.keys b.key ≡ o → Left s b (by_key s b o)
by_key_left s b (Some kept) is = either (Left s b) (pointwise nat_eq kept.text (batch_text b)) _ _
    (λ why place e. repeated_refused s kept why place e)
    (λ why place e. (refl, λ n f. no_place place n (refused_place _ why None place e) f))
by_key_left s b None is = either (Left s b) (nat_lt (len s.keys) most_batches) _ _
    (fresh_left s b (len s.keys + 1) (edited 1 s b.edits) is)
    (λ why place e. (refl, λ n f. is))

pub refused_changes_nothing : RefusedChangesNothing
refused_changes_nothing s b = by_key_left s b (get s.keys b.key) refl
