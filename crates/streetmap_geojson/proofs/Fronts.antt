-- A list that is read from the left: what was read, before what is still to be read.
use Rattle.std.proofs.Common.{◌≡◌, ℕ, suc, ◌+◌, ◌<◌, ◌≤◌, List, [], ◌∷◌, ◌++◌, length, map, drop, get_or, Option, None, Some, Result, Ok, Err, refl, sym, ap, ◌∙◌, append_assoc, add-one, drop-cons}
use Rattle.std.proofs.lemmas.List.{append-nil, map_push}
use Rattle.std.proofs.Math.ListN.{drop_of_length-le}
use Rattle.serde_json.specs.Data.{Data}
use Rattle.streetmap_geojson.specs.declared.fault.Fault.{Fault}
use Rattle.streetmap_geojson.specs.declared.fault.JsonFault.{JsonFault}
use Rattle.streetmap_geojson.specs.declared.fault.JsonFault.TheVariants as errors
use Rattle.streetmap_geojson.specs.Fault.{◌>>=◌, Fails}
use Rattle.streetmap_geojson.specs.ParsedGeometries.{each, somes, under}

abbrev pub with_front : {A : Type 0} → List A → Result (List A × ℕ) Fault → Result (List A × ℕ) Fault
with_front front read = read >>= λ x. Ok (front ++ x.0, x.1)

regroup : {A : Type 0} (front : List A) (a : A) (read : Result (List A × ℕ) Fault) → with_front front (read >>= λ x. Ok (a ∷ x.0, x.1)) ≡ with_front (front ++ a ∷ []) read
regroup {A} front a (Ok x) = ap (λ (xs : List A). Ok (xs, x.1)) (simp append_assoc)
regroup front a (Err f) = refl

-- what is left is the element at i, and what comes after it
left_is : {V : Type 0} (view : V → Data) (vs : List V) (i : ℕ) (v : V) → i < length vs → v ≡ get_or vs i v → map view (drop i vs) ≡ view v ∷ map view (drop (i + 1) vs)
left_is view vs i v lt is = rw (add-one, drop-cons vs i v lt) (ap (λ w. view w ∷ map view (drop (suc i) vs)) (sym is))

pub goes_on : {V A : Type 0} (view : V → Data) (f : Data → ℕ → Result (A × ℕ) Fault) (vs : List V) (i : ℕ) (v : V) (front : List A) (a : A) (n m : ℕ) (total : Result (List A × ℕ) Fault)
    → i < length vs → v ≡ get_or vs i v → f (view v) n ≡ Ok (a, m)
    → with_front front (each f (map view (drop i vs)) n) ≡ total → with_front (front ++ a ∷ []) (each f (map view (drop (i + 1) vs)) m) ≡ total
unfolding each
goes_on {V} {A} view f vs i v front a n m total lt is read so_far =
    let one : with_front front (each f (map view (drop i vs)) n) ≡ with_front (front ++ a ∷ []) (each f (map view (drop (i + 1) vs)) m) =
    rw (left_is view vs i v lt is, read) (regroup front a (each f (map view (drop (i + 1) vs)) m)) in
    sym one ∙ so_far

pub ends : {V A : Type 0} (view : V → Data) (f : Data → ℕ → Result (A × ℕ) Fault) (vs : List V) (i : ℕ) (v : V) (e : JsonFault) (front : List A) (n : ℕ) (total : Result (List A × ℕ) Fault)
    → i < length vs → v ≡ get_or vs i v → Fails e (f (view v) n)
    → with_front front (each f (map view (drop i vs)) n) ≡ total → Fails e total
unfolding each
ends view f vs i v errors.Memory front n total lt is read so_far = tt
ends view f vs i v (errors.Fault e) front n total lt is read so_far =
    let one : with_front front (each f (map view (drop i vs)) n) ≡ Err e = rw (left_is view vs i v lt is, read) refl in
    sym so_far ∙ one

pub is_done : {V A : Type 0} (view : V → Data) (f : Data → ℕ → Result (A × ℕ) Fault) (vs : List V) (i : ℕ) (front : List A) (n : ℕ) (total : Result (List A × ℕ) Fault)
    → length vs ≤ i → with_front front (each f (map view (drop i vs)) n) ≡ total → total ≡ Ok (front, n)
unfolding each
is_done {V} {A} view f vs i front n total le so_far =
    let one : with_front front (each f (map view (drop i vs)) n) ≡ Ok (front, n) = rw (drop_of_length-le vs le) (ap (λ (xs : List A). Ok (xs, n)) (append-nil front)) in
    sym so_far ∙ one

pub starts : {A : Type 0} (read : Result (List A × ℕ) Fault) → with_front [] read ≡ read
starts (Ok x) = refl
starts (Err e) = refl

-- ---- a list of which some elements are left out

pub somes-append : {A : Type 0} (xs ys : List (Option A)) → somes (xs ++ ys) ≡ somes xs ++ somes ys
somes-append [] ys = refl
somes-append (None ∷ xs) ys = somes-append xs ys
somes-append {A} (Some x ∷ xs) ys = ap (λ (w : List A). x ∷ w) (somes-append xs ys)

pub Fails-under : {A B : Type 0} (e : JsonFault) (g : A → B) (read : Result (A × ℕ) Fault) → Fails e read → Fails e (under g read)
Fails-under errors.Memory g read h = tt
Fails-under (errors.Fault f) g read h = rw h refl

-- one more element, present or absent
pub push_some : {X A : Type 0} (view : X → A) (xs : List X) (x : X) (front : List (Option A)) → map view xs ≡ somes front → map view (xs ++ x ∷ []) ≡ somes (front ++ Some (view x) ∷ [])
push_some view xs x front e = rw (map_push view xs x, e, somes-append front (Some (view x) ∷ [])) refl

pub push_none : {X A : Type 0} (view : X → A) (xs : List X) (front : List (Option A)) → map view xs ≡ somes front → map view xs ≡ somes (front ++ None ∷ [])
push_none view xs front e = rw (somes-append front (None ∷ []), append-nil (somes front)) e
