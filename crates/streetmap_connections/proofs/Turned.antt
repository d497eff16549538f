-- Lists whose elements are changed one after another.
use Rattle.std.proofs.Common.{◌≡◌, ℕ, zero, suc, ◌<◌, ◌≤◌, List, [], ◌∷◌, length, get_or, set, refl, sym, subst, ◌∙◌, arith}
use Rattle.std.specs.List.{AllZip}

module _ {A : Type 0} (R : A → A → Type 0) where
  -- the first i elements were changed as R says, and the others not at all
  abbrev pub Turned : ℕ → List A → List A → Type 0
  Turned i [] [] = Unit {0}
  Turned i [] (y ∷ ys) = ⊥
  Turned i (x ∷ xs) [] = ⊥
  Turned zero (x ∷ xs) (y ∷ ys) = (x ≡ y) × Turned zero xs ys
  Turned (suc i) (x ∷ xs) (y ∷ ys) = R x y × Turned i xs ys

  pub none_turned : (xs : List A) → Turned zero xs xs
  none_turned [] = tt
  none_turned (x ∷ xs) = (refl, none_turned xs)

  none_below : (i : ℕ) → ¬ (i < 0)
  none_below i lt = omega arith

  pub one_turned : (i : ℕ) (xs ys : List A) (was is : A) → i < length ys → was ≡ get_or ys i was → R was is → Turned i xs ys → Turned (suc i) xs (set ys i is)
  one_turned i [] [] was is lt same r turned = absurd (none_below i lt)
  one_turned i [] (y ∷ ys) was is lt same r turned = absurd turned
  one_turned i (x ∷ xs) [] was is lt same r turned = absurd turned
  one_turned zero (x ∷ xs) (y ∷ ys) was is lt same r (e, rest) = (subst (λ (z : A). R z is) (same ∙ sym e) r, rest)
  one_turned (suc i) (x ∷ xs) (y ∷ ys) was is lt same r (first, rest) = (first, one_turned i xs ys was is (omega arith) same r rest)

  more_than_none : (x : A) (xs : List A) → ¬ (length (x ∷ xs) ≤ 0)
  more_than_none x xs le = omega arith

  pub all_turned : (i : ℕ) (xs ys : List A) → length ys ≤ i → Turned i xs ys → AllZip R xs ys
  all_turned i [] [] le turned = tt
  all_turned i [] (y ∷ ys) le turned = absurd turned
  all_turned i (x ∷ xs) [] le turned = absurd turned
  all_turned zero (x ∷ xs) (y ∷ ys) le turned = absurd (more_than_none y ys le)
  all_turned (suc i) (x ∷ xs) (y ∷ ys) le (first, rest) = (first, all_turned i xs ys (omega arith) rest)
