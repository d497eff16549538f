-- Interleavings of lists.
use Rattle.std.specs.Prelude.{List, [], ◌∷◌, ◌++◌}

-- the last list has the elements of the first two, those of each in their order
pub data Merges {A : Type 0} : List A → List A → List A → Type 0 where
  none : Merges [] [] []
  left : {x : A} {xs ys zs : List A} → Merges xs ys zs → Merges (x ∷ xs) ys (x ∷ zs)
  right : {y : A} {xs ys zs : List A} → Merges xs ys zs → Merges xs (y ∷ ys) (y ∷ zs)

-- the list has the elements of all the lists, those of each in their order
pub data IsInterleaving {A : Type 0} : List (List A) → List A → Type 0 where
  none : IsInterleaving [] []
  more : {xs : List A} {xss : List (List A)} {rest all : List A} → Merges xs rest all
      → IsInterleaving xss rest → IsInterleaving (xs ∷ xss) all

-- an interleaving of the lists before continues with these elements, and is then one of the lists
-- after
abbrev pub GoesOnAs : {A : Type 0} → List (List A) → List A → List (List A) → Type 0
GoesOnAs {A} before made after = (all : List A) → IsInterleaving before all
    → IsInterleaving after (all ++ made)
