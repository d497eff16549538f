-- Some element of a list, one at a time.
use Rattle.std.specs.Prelude.{◌≡◌, Bool, List, [], ◌∷◌, map}
use Rattle.std.specs.Bool.{Decides}
use Rattle.std.specs.List.{list_any}
use Rattle.std.proofs.Common.{sym, subst, inl, inr}
use Rattle.std.proofs.lemmas.Bool.Decides.{Decides-or}
use Rattle.streetmap_grid.specs.Some.{SomeOf}

pub some_here : {X : Type 0} (P : X → Type 0) (x : X) (xs es : List X) → es ≡ x ∷ xs → P x → SomeOf P es
some_here {X} P x xs es e h = let Q : List X → Type 0 = SomeOf P in subst Q (sym e) (inl h)

pub some_there : {X : Type 0} (P : X → Type 0) (x : X) (xs es : List X) → es ≡ x ∷ xs → SomeOf P xs → SomeOf P es
some_there {X} P x xs es e h = let Q : List X → Type 0 = SomeOf P in subst Q (sym e) (inr h)

rest_of : {X : Type 0} (P : X → Type 0) (x : X) (xs : List X) → (P x → ⊥) → SomeOf P (x ∷ xs) → SomeOf P xs
rest_of P x xs n (inl h) = absurd (n h)
rest_of P x xs n (inr h) = h

pub some_rest : {X : Type 0} (P : X → Type 0) (x : X) (xs es : List X) → es ≡ x ∷ xs → (P x → ⊥) → SomeOf P es → SomeOf P xs
some_rest {X} P x xs es e n h = let Q : List X → Type 0 = SomeOf P in rest_of P x xs n (subst Q e h)

pub some_none : {X : Type 0} (P : X → Type 0) (es : List X) → es ≡ [] → SomeOf P es → ⊥
some_none {X} P es e h = let Q : List X → Type 0 = SomeOf P in subst Q e h

-- a test of each element against a relation
pub some_decides : {X : Type 0} (p : X → Bool) (P : X → Type 0) → ((x : X) → Decides (p x) (P x)) → (xs : List X) → Decides (list_any p xs) (SomeOf P xs)
some_decides p P f [] = (λ h. cc, λ h. absurd h)
some_decides p P f (x ∷ xs) = Decides-or (p x) (list_any p xs) (f x) (some_decides p P f xs)

-- through a view, there and back
pub some_map : {X Y : Type 0} (f : X → Y) (P : Y → Type 0) (xs : List X) → SomeOf (λ x. P (f x)) xs → SomeOf P (map f xs)
some_map f P [] s = absurd s
some_map f P (x ∷ xs) (inl h) = inl h
some_map f P (x ∷ xs) (inr h) = inr (some_map f P xs h)

pub map_some : {X Y : Type 0} (f : X → Y) (P : Y → Type 0) (xs : List X) → SomeOf P (map f xs) → SomeOf (λ x. P (f x)) xs
map_some f P [] s = absurd s
map_some f P (x ∷ xs) (inl h) = inl h
map_some f P (x ∷ xs) (inr h) = inr (map_some f P xs h)
