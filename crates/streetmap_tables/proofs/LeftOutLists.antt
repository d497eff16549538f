-- What stays of a list if some of it is left out.
use Rattle.std.proofs.Common.{◌≡◌, inl, inr, Bool, true, List, [], ◌∷◌, filter, find, Some, ap, ◌∙◌}
use Rattle.std.proofs.lemmas.Bool.{cases_Bool}

-- what is found first is still found, if it stays
pub find_left : {A : Type 0} (p g : A → Bool) (xs : List A) (x : A) → find p xs ≡ Some x → g x ≡ true → find p (filter g xs) ≡ Some x
find_left p g [] x h k = absurd (cc)
find_left p g (y ∷ xs) x h k = elim (cases_Bool (p y)) [
  | inl here ↦
      (let e : Some y ≡ Some x = rw here at h in
      let same : y ≡ x = cc in
      let stays : g y ≡ true = ap g same ∙ k in rw (stays, here) e)
  | inr other ↦
      (let rest = find_left p g xs x (rw other at h) k in
      elim (cases_Bool (g y)) [ inl stays ↦ rw (stays, other) rest | inr gone ↦ rw gone rest ])
]
