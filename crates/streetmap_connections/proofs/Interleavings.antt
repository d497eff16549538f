-- How interleavings continue.
use Rattle.std.proofs.Common.{◌≡◌, List, [], ◌∷◌, ◌++◌, refl, sym, subst, ap, append_assoc}
use Rattle.std.proofs.lemmas.List.{append-nil}
use Rattle.streetmap_connections.specs.Interleaving.{GoesOnAs, IsInterleaving, Merges}
use Rattle.streetmap_connections.specs.Interleaving.IsInterleaving.{more, none as no_lists}
use Rattle.streetmap_connections.specs.Interleaving.Merges.{none, left, right}

left_only : {A : Type 0} (xs : List A) → Merges xs [] xs
left_only [] = none
left_only (x ∷ xs) = left (left_only xs)

right_only : {A : Type 0} (xs : List A) → Merges [] xs xs
right_only [] = none
right_only (x ∷ xs) = right (right_only xs)

left_more : {A : Type 0} {xs ys zs : List A} (made : List A) → Merges xs ys zs → Merges (xs ++ made) ys (zs ++ made)
left_more made none = left_only made
left_more made (left m) = left (left_more made m)
left_more made (right m) = right (left_more made m)

right_more : {A : Type 0} {xs ys zs : List A} (made : List A) → Merges xs ys zs → Merges xs (ys ++ made) (zs ++ made)
right_more made none = right_only made
right_more made (left m) = left (right_more made m)
right_more made (right m) = right (right_more made m)

-- the first list, and an interleaving of the others
split_first : {A : Type 0} {xs : List A} {xss : List (List A)} {all : List A} → IsInterleaving (xs ∷ xss) all
    → (rest : List A) × Merges xs rest all × IsInterleaving xss rest
split_first (more {rest = rest} m i) = (rest, m, i)

-- one more list, empty so far
pub begins : {A : Type 0} (front back : List (List A)) (all : List A) → IsInterleaving (front ++ back) all → IsInterleaving (front ++ ([] ∷ back)) all
begins [] back all i = more (right_only all) i
begins (xs ∷ front) back all i = let s = split_first i in more s.1 (begins front back s.0 s.2)

-- one of the lists continues
pub goes_on : {A : Type 0} (front back : List (List A)) (own made all : List A) → IsInterleaving (front ++ (own ∷ back)) all
    → IsInterleaving (front ++ ((own ++ made) ∷ back)) (all ++ made)
goes_on [] back own made all i = let s = split_first i in more (left_more made s.1) s.2
goes_on (xs ∷ front) back own made all i = let s = split_first i in more (right_more made s.1) (goes_on front back own made s.0 s.2)

pub same_goes_on : {A : Type 0} (before after : List (List A)) → after ≡ before → GoesOnAs before [] after
same_goes_on {A = A} before after e all i = subst (λ (xs : List A). IsInterleaving after xs) (sym (append-nil all)) (subst (λ (ls : List (List A)). IsInterleaving ls all) (sym e) i)

pub goes_on_then : {A : Type 0} (a b c : List (List A)) (xs ys : List A) → GoesOnAs a xs b → GoesOnAs b ys c → GoesOnAs a (xs ++ ys) c
goes_on_then {A = A} a b c xs ys x y all i = subst (λ (l : List A). IsInterleaving c l) (append_assoc all xs ys) (y (all ++ xs) (x all i))

-- one list, empty so far
pub starts : {A : Type 0} (xs : List A) → xs ≡ [] → IsInterleaving (xs ∷ []) []
starts {A = A} xs nothing = subst (λ (l : List A). IsInterleaving (l ∷ []) []) (sym nothing) (more none no_lists)

no_rest : {A : Type 0} {rest : List A} → IsInterleaving [] rest → rest ≡ []
no_rest no_lists = refl

left_alone : {A : Type 0} {xs all : List A} → Merges xs [] all → all ≡ xs
left_alone none = refl
left_alone {A = A} (left {x = x} m) = ap (λ (l : List A). x ∷ l) (left_alone m)

-- one list alone is its only interleaving
pub only_one : {A : Type 0} {xs all : List A} → IsInterleaving (xs ∷ []) all → all ≡ xs
only_one {A = A} {xs = xs} {all = all} i = let s = split_first i in left_alone (subst (λ (r : List A). Merges xs r all) (no_rest s.2) s.1)
