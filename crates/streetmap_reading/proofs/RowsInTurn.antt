-- Rows one after the other.
use Rattle.std.proofs.Common.{◌≡◌, List, [], ◌∷◌, ◌++◌, map, refl, ap}
use Rattle.std.specs.List.{AllByRecursion}

pub map_again : {A B C : Type 0} (f : B → C) (g : A → B) (xs : List A) → map f (map g xs) ≡ map (λ x. f (g x)) xs
map_again f g [] = refl
map_again f g (x ∷ xs) = ap (λ l. f (g x) ∷ l) (map_again f g xs)

pub none_mapped : {A B : Type 0} (f : A → B) (xs : List A) → [] ≡ map f xs → xs ≡ []
none_mapped f [] e = refl
none_mapped f (x ∷ xs) e = absurd cc

-- the last of a list, and what is before it
pub record EndsWith {A B : Type 0} (f : A → B) (ys : List B) (y : B) (xs : List A) : Type 0 where
  pub before : List A
  pub last : A
  pub is : xs ≡ before ++ last ∷ []
  pub rest : ys ≡ map f before
  pub same : y ≡ f last

pub ends_with : {A B : Type 0} (f : A → B) (ys : List B) (y : B) (xs : List A) → ys ++ y ∷ [] ≡ map f xs → EndsWith f ys y xs
ends_with f [] y [] e = absurd cc
ends_with f [] y (x ∷ []) e = record { before = []; last = x; is = refl; rest = refl; same = let s : y ≡ f x = cc in s }
ends_with f [] y (x ∷ z ∷ xs) e = absurd cc
ends_with f (w ∷ ys) y [] e = absurd cc
ends_with f (w ∷ ys) y (x ∷ xs) e =
    let tail : ys ++ y ∷ [] ≡ map f xs = cc in
    let it = ends_with f ys y xs tail in
    record { before = x ∷ it.before; last = it.last; is = ap (λ l. x ∷ l) it.is; rest = (let first : w ≡ f x = cc in λ i. first i ∷ it.rest i); same = it.same }

pub all_before : {A : Type 0} (P : A → Type 0) (xs : List A) (x : A) → AllByRecursion P (xs ++ x ∷ []) → AllByRecursion P xs × P x
all_before P [] x all = (tt, all.0)
all_before P (y ∷ xs) x all = let it = all_before P xs x all.1 in ((all.0, it.0), it.1)

pub one_of : {A : Type 0} (P : A → Type 0) (xs : List A) (x : A) (ys : List A)
    → AllByRecursion P ((xs ++ x ∷ []) ++ ys) → P x
one_of P [] x ys all = all.0
one_of P (y ∷ xs) x ys all = one_of P xs x ys all.1
