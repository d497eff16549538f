-- A property of each element, after an edit of the list.
use Rattle.std.proofs.Common.{◌≡◌, ℕ, suc, ◌-◌, List, ◌∷◌, take, drop, set, arith}
use Rattle.std.specs.Prelude.{All}
use Rattle.std.specs.List.{insert, remove}
use Rattle.std.proofs.lemmas.List.{take-set, drop-set-lt}
use Rattle.std.proofs.lemmas.List.Elements.{All-append, All-cons, All-take, All-drop}

module _ {X : Type 0} (P : X → Type 0) where
  pub each_inserted : (xs : List X) (i : ℕ) (x : X) → P x → All P xs → All P (insert xs i x)
  each_inserted xs i x p h = All-append P (take i xs) (x ∷ drop i xs) (All-take P i xs h) (All-cons P x (drop i xs) p (All-drop P i xs h))

  -- without the element that was changed
  pub each_without : (xs : List X) (i : ℕ) (x : X) → All P xs → All P (remove (set xs i x) i)
  each_without xs i x h = rw (take-set xs i x, drop-set-lt (suc i) xs i x (omega arith))
      (All-append P (take i xs) (drop (suc i) xs) (All-take P i xs h) (All-drop P (suc i) xs h))

  pub each_removed : (xs : List X) (i : ℕ) → All P xs → All P (remove xs i)
  each_removed xs i h = All-append P (take i xs) (drop (suc i) xs) (All-take P i xs h) (All-drop P (suc i) xs h)
