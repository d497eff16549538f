-- Counts of lists that grow.
use Rattle.std.proofs.Common.{◌≡◌, ℕ, ◌+◌, ◌-◌, ◌^◌, ◌<◌, ◌≤◌, List, ◌++◌, Option, Some, None, IsSome, length, map, min, take, drop, subst, get_or, set, refl, sym, ap, ◌∙◌, arith, rules, true, false, length-append}
use Rattle.std.specs.List.{flat_map}
use Rattle.std.proofs.lemmas.List.{length-map}
use Rattle.std.proofs.Math.Seq.{take-append_seam}
use Rattle.streetmap_connections.specs.declared.client.Client.{Client}
use Rattle.streetmap_connections.specs.Counts.{CountsOn, count_of}
use Rattle.streetmap_connections.specs.Slots.{present}
use Rattle.streetmap_connections.proofs.Changed.{set_differs}

pub counts_kept : {A : Type 0} (n : ℕ) (xs ys : List A) → ys ≡ xs → CountsOn n n xs ys
counts_kept {A} n xs ys same = let long : length ys ≡ length xs = ap (λ (zs : List A). length zs) same in (0, omega (arith, long), omega arith)

pub counts_then : {A : Type 0} (a b c : ℕ) (xs ys zs : List A) → CountsOn a b xs ys → CountsOn b c ys zs → CountsOn a c xs zs
counts_then a b c xs ys zs x y = (x.0 + y.0, omega (arith, x.1, y.1), omega (arith, x.2, y.2))

-- a count of the whole list continues with the list
pub count_goes_on : {A : Type 0} (old new more : ℕ) (xs ys : List A) → old ≡ count_of xs → length ys ≡ length xs + more → new ≡ min (old + more) (2 ^ 64 - 1) → new ≡ count_of ys
count_goes_on old new more xs ys counts long is = omega (arith, counts, long, is)

-- a count that started at 0 is added to it
pub count_is_added : {A : Type 0} (old new more : ℕ) (xs ys : List A) → old ≡ count_of xs → CountsOn 0 more xs ys → new ≡ min (old + more) (2 ^ 64 - 1) → new ≡ count_of ys
count_is_added old new more xs ys counts on is = omega (arith, counts, on.1, on.2, is)

-- a list with the same values of f has the same count
pub count_by_map : {A B : Type 0} (f : A → B) (n : ℕ) (xs ys : List A) → map f ys ≡ map f xs → n ≡ count_of xs → n ≡ count_of ys
count_by_map {B = B} f n xs ys same counts =
    let long : length (map f ys) ≡ length (map f xs) = ap (λ (zs : List B). length zs) same in
    omega (arith, counts, long, length-map xs f, length-map ys f)

pub count_by_length : {A : Type 0} (n : ℕ) (xs ys : List A) → length ys ≡ length xs → n ≡ count_of xs → n ≡ count_of ys
count_by_length n xs ys long counts = omega (arith, counts, long)

pub length_after : {A : Type 0} (xs ys more : List A) → ys ≡ xs ++ more → length ys ≡ length xs + length more
length_after {A} xs ys more e = ap (λ (zs : List A). length zs) e ∙ length-append xs more

none_is_no_some : ¬ (false ≡ true)
none_is_no_some e = search rules

pub one_present : {S : Type 0} (o : Option (Client S)) → IsSome o → length (present o) ≡ 1
one_present (Some c) some = refl
one_present None some = absurd (none_is_no_some some)

-- one more of the list is counted
pub counts_one : {A : Type 0} (n m : ℕ) (xs ys more : List A) → ys ≡ xs ++ more → length more ≡ 1 → m ≡ min (n + 1) (2 ^ 64 - 1) → CountsOn n m xs ys
counts_one n m xs ys more following one counts = (1, omega (arith, length_after xs ys more following, one), omega (arith, counts))

length_around : {B : Type 0} (all front own back : List B) → all ≡ front ++ (own ++ back) → length all ≡ length front + (length own + length back)
length_around {B} all front own back e =
    ap (λ (xs : List B). length xs) e ∙ (length-append front (own ++ back) ∙ ap (λ n. length front + n) (length-append own back))

-- the list of one place has grown, and so has that of all places
pub longer_in_slots : {A B : Type 0} (f : A → List B) (xs : List A) (i : ℕ) (x y : A) → i < length xs → x ≡ get_or xs i x → (more : ℕ) → length (f y) ≡ length (f x) + more
    → length (flat_map f (set xs i y)) ≡ length (flat_map f xs) + more
longer_in_slots f xs i x y lt is more longer =
    let d = set_differs f xs i x y lt is in
    omega (arith, longer, length_around (flat_map f xs) d.front (f x) d.back d.before, length_around (flat_map f (set xs i y)) d.front (f y) d.back d.after)

pub counts_in_slots : {A B : Type 0} (f : A → List B) (xs : List A) (i : ℕ) (x y : A) → i < length xs → x ≡ get_or xs i x → (n m : ℕ)
    → CountsOn n m (f x) (f y) → CountsOn n m (flat_map f xs) (flat_map f (set xs i y))
counts_in_slots f xs i x y lt is n m on = (on.0, longer_in_slots f xs i x y lt is on.0 on.1, on.2)

-- the slice that a loan returns is the whole list
pub all_given_back : {A : Type 0} (n : ℕ) (xs ys : List A) → length xs ≡ n → take n (xs ++ drop (length xs) ys) ≡ xs
all_given_back n xs ys long = subst (λ k. take k (xs ++ drop (length xs) ys) ≡ xs) long (take-append_seam xs (drop (length xs) ys))

-- what holds between a lent slice and the slice returned holds between the old and the new list
pub lent_and_back : {A : Type 0} (R : List A → List A → Type 0) (n : ℕ) (lent old new : List A) → lent ≡ old → length new ≡ n → R lent new → R old (take n (new ++ drop (length new) old))
lent_and_back {A} R n lent old new same long holds =
    subst (λ (xs : List A). R old xs) (sym (all_given_back n new old long)) (subst (λ (xs : List A). R xs new) same holds)

-- lists with the same values of a function have as many elements
pub as_few_by :
    {A B : Type 0} (f : A → B) (xs ys : List A) (n : ℕ) → map f xs ≡ map f ys → length ys ≤ n
    → length xs ≤ n
as_few_by {B = B} f xs ys n same few =
    let long : length (map f xs) ≡ length (map f ys) = ap (λ (zs : List B). length zs) same in
    omega (arith, long, few, length-map xs f, length-map ys f)
