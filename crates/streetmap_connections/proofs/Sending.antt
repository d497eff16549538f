-- What is left of an answer.
use Rattle.std.proofs.Common.{◌≡◌, ◌≢◌, ℕ, ◌<◌, ◌≤◌, List, [], ◌∷◌, ◌++◌, ◌+◌, ◌-◌, length, take, drop, refl, sym, arith, length-drop}
use Rattle.std.proofs.lemmas.List.{take-append-le}
use Rattle.streetmap_connections.specs.Outgoings.{first_of}

none : ¬ (0 < 0)
none lt = omega arith

pub first_is_left : (xs ys : List ℕ) → 0 < length xs → first_of xs ys ≡ xs
first_is_left [] ys some = absurd (none some)
first_is_left (x ∷ xs) ys some = refl

pub take_first : (n : ℕ) (xs ys : List ℕ) → n ≤ length (first_of xs ys) → take n (first_of xs ys) ≡ take n (xs ++ ys)
take_first n [] ys fits = refl
take_first n (x ∷ xs) ys fits = sym (take-append-le n (x ∷ xs) ys fits)

pub room_in_head : (at len : ℕ) (xs ys : List ℕ) → at < length xs → len ≤ length (first_of (drop at xs) ys) → at + len ≤ length xs
room_in_head at len xs ys within fits =
    let some : 0 < length (drop at xs) = rw length-drop (omega arith) in
    let left : len ≤ length (drop at xs) = rw (first_is_left (drop at xs) ys some) at fits in
    let same : length (drop at xs) ≡ length xs - at = length-drop at xs in
    omega arith
