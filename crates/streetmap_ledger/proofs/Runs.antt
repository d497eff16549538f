-- A run goes on by one batch.
use Rattle.std.proofs.Common.{◌≡◌, ℕ, ◌+◌, ◌<◌, List, [], ◌∷◌, ◌++◌, length, take, map, get_or, Some, Err, refl, sym, ap, subst, ◌∙◌, inl, inr}
use Rattle.std.proofs.lemmas.List.{take_more, take-map}
use Rattle.streetmap_batch.specs.BatchValue.{BatchValue}
use Rattle.streetmap_ledger.specs.State.{State}
use Rattle.streetmap_ledger.specs.Batches.{act, after_all, replies_of}
use Rattle.streetmap_batch.specs.BatchView.{batch_value}
use Rattle.streetmap_ledger.specs.Model.{Model}
use Rattle.streetmap_ledger.specs.Keep.{Writes, RunEnds}
use Rattle.streetmap_batch.specs.declared.batch.Batch.{Batch}
use Rattle.streetmap_ledger.specs.declared.reply.Fault.{Fault}
use Rattle.streetmap_ledger.specs.declared.reply.Fault.TheVariants.{Memory, Device, Damaged, Reopen}

pub after_last : (s : State) (bs : List BatchValue) (b : BatchValue) → after_all s (bs ++ b ∷ []) ≡ (act (after_all s bs) b).state
after_last s [] b = refl
after_last s (a ∷ bs) b = after_last (act s a).state bs b

pub replies_last : (s : State) (bs : List BatchValue) (b : BatchValue) → replies_of s (bs ++ b ∷ []) ≡ replies_of s bs ++ (act (after_all s bs) b).reply ∷ []
replies_last s [] b = refl
replies_last s (a ∷ bs) b = ap (λ rs. (act s a).reply ∷ rs) (replies_last (act s a).state bs b)

map_last : (xs : List Batch) (b : Batch) → map batch_value (xs ++ b ∷ []) ≡ map batch_value xs ++ batch_value b ∷ []
map_last [] b = refl
map_last (x ∷ xs) b = ap (λ ys. batch_value x ∷ ys) (map_last xs b)

pub taken : (xs : List Batch) (i : ℕ) (b : Batch) → i < length xs → b ≡ get_or xs i b → take (i + 1) (map batch_value xs) ≡ take i (map batch_value xs)
    ++ batch_value b ∷ []
taken xs i b h is =
    take-map batch_value (i + 1) xs ∙ ap (map batch_value) (take_more xs i b h ∙ ap (λ y. take i xs ++ y ∷ []) (sym is)) ∙ map_last (take i xs) b
    ∙ ap (λ ys. ys ++ batch_value b ∷ []) (sym (take-map batch_value i xs))

-- the state after one batch more
pub after_more : (s : State) (bs cs : List BatchValue) (b : BatchValue) → cs ≡ bs ++ b ∷ [] → (act (after_all s bs) b).state ≡ after_all s cs
after_more s bs cs b more = sym (after_last s bs b) ∙ ap (after_all s) (sym more)

-- a batch ended the run
pub ends_at : {K : Type 0} (model : Model K) (first old new : K) (s : State) (bs : List BatchValue) (n k : ℕ) (b : BatchValue) (f : Fault) → n ≡ k →
    take (k + 1) bs ≡ take k bs ++ b ∷ [] → (model.fails old new → model.fails first new) → Writes model old new (after_all s (take k bs)) b (Err f) →
    RunEnds model first new s bs n (Some f)
ends_at model first old new s bs n k b f is more later h = subst (λ m. RunEnds model first new s bs m (Some f)) (sym is) (go f h) where
  go : (f : Fault) → Writes model old new (after_all s (take k bs)) b (Err f) → RunEnds model first new s bs k (Some f)
  go Memory h = h
  go Device h = (later h.0, λ o left. elim (h.1 o left) [ inl p ↦ inl p | inr p ↦ inr (p ∙ ap Some (after_more s (take k bs) (take (k + 1) bs) b more)) ])
  go Damaged h = h
  go Reopen h = h
