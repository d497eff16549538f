-- Reading the pairs one at a time.
use Rattle.std.proofs.Common.{◌≡◌, ℕ, List, [], ◌∷◌, Result, Ok, Err, refl, ap}
use Rattle.streetmap_query.specs.declared.fault.QueryFault.{QueryFault}
use Rattle.std.specs.Prelude.{IfOk, MatchResult}
use Rattle.std.specs.declared.alloc.AllocError.{AllocError}
use Rattle.std.specs.declared.borrow.CowStr.{CowStr}
use Rattle.std.specs.Cow.{cow_str_bytes}
use Rattle.form_urlencoded.specs.Form.{DecodesTo}
use Rattle.streetmap_query.specs.Faults.{Gives, Fails}
use Rattle.streetmap_query.specs.Views.{parameters_value}
use Rattle.streetmap_query.specs.declared.queries.Parameters.{Parameters}
use Rattle.streetmap_query.specs.declared.fault.QueryFault.TheVariants.{UnknownParameter, RepeatedParameter, BadLimit, BadBbox, BadDatetime, BadAfter, Memory}
use Rattle.streetmap_query.specs.Parameters.{ParametersValue, with_pair, with_pairs, ◌>>=◌}
use Rattle.streetmap_query.specs.Query.{decoded, text_of}

pub none_left : (p : ParametersValue) (left : List (List ℕ × List ℕ)) → left ≡ [] → with_pairs p (decoded left) ≡ Ok p
unfolding with_pairs
none_left p left e = rw e refl

pub one_more : (p q : ParametersValue) (left more : List (List ℕ × List ℕ)) (name value a b : List ℕ) → left ≡ (name, value) ∷ more → a ≡ text_of name → b ≡ text_of value → with_pair p a b ≡ Ok q → with_pairs p (decoded left) ≡ with_pairs q (decoded more)
unfolding with_pairs
one_more p q left more name value a b e ea eb h =
    let read : with_pair p (text_of name) (text_of value) ≡ Ok q = rw (← ea, ← eb) h in
    rw e (ap (λ r. r >>= λ x. with_pairs x (decoded more)) read)

pub stops : (p : ParametersValue) (fault : QueryFault) (left more : List (List ℕ × List ℕ)) (name value a b : List ℕ) → left ≡ (name, value) ∷ more → a ≡ text_of name → b ≡ text_of value → with_pair p a b ≡ Err fault → with_pairs p (decoded left) ≡ Err fault
unfolding with_pairs
stops p fault left more name value a b e ea eb h =
    let read : with_pair p (text_of name) (text_of value) ≡ Err fault = rw (← ea, ← eb) h in
    rw e (ap (λ r. r >>= λ x. with_pairs x (decoded more)) read)

-- the item is the first of the pairs that were left, decoded
abbrev pub Yields : {A : Type 0} → List (List ℕ × List ℕ) → Result (CowStr A × CowStr A) AllocError → List (List ℕ × List ℕ) → Type 0
Yields left item more = (name : List ℕ) × (value : List ℕ) × (left ≡ (name, value) ∷ more) × IfOk item (λ pair. DecodesTo name (cow_str_bytes pair.0) × DecodesTo value (cow_str_bytes pair.1))

-- the item was taken
abbrev pub Takes : {A : Type 0} → ParametersValue → Result (CowStr A × CowStr A) AllocError → Result Parameters QueryFault → Type 0
Takes p item r = MatchResult item (λ pair. Gives parameters_value r (with_pair p (cow_str_bytes pair.0) (cow_str_bytes pair.1))) (λ _. r ≡ Err Memory)

pub goes_on : {A : Type 0} (p : ParametersValue) (left more : List (List ℕ × List ℕ)) (item : Result (CowStr A × CowStr A) AllocError) (r : Result Parameters QueryFault) (q : Parameters) → Yields left item more → Takes p item r → r ≡ Ok q → with_pairs p (decoded left) ≡ with_pairs (parameters_value q) (decoded more)
goes_on p left more (Err _) r q y t w = cc
goes_on p left more (Ok pair) r q y t w =
    let d = y.3 in
    let read = rw w at t in
    one_more p (parameters_value q) left more y.0 y.1 (cow_str_bytes pair.0) (cow_str_bytes pair.1) y.2 d.0.2 d.1.2 read

fails_on : (p : ParametersValue) (left more : List (List ℕ × List ℕ)) (name value a b : List ℕ) (e : QueryFault) → left ≡ (name, value) ∷ more → a ≡ text_of name → b ≡ text_of value → Fails e (with_pair p a b) → Fails e (with_pairs p (decoded left))
fails_on p left more name value a b Memory l ea eb h = tt
fails_on p left more name value a b UnknownParameter l ea eb h = stops p UnknownParameter left more name value a b l ea eb h
fails_on p left more name value a b RepeatedParameter l ea eb h = stops p RepeatedParameter left more name value a b l ea eb h
fails_on p left more name value a b BadLimit l ea eb h = stops p BadLimit left more name value a b l ea eb h
fails_on p left more name value a b BadBbox l ea eb h = stops p BadBbox left more name value a b l ea eb h
fails_on p left more name value a b BadDatetime l ea eb h = stops p BadDatetime left more name value a b l ea eb h
fails_on p left more name value a b BadAfter l ea eb h = stops p BadAfter left more name value a b l ea eb h

pub stops_at : {A : Type 0} (p : ParametersValue) (left more : List (List ℕ × List ℕ)) (item : Result (CowStr A × CowStr A) AllocError) (r : Result Parameters QueryFault) (e : QueryFault) → Yields left item more → Takes p item r → r ≡ Err e → Fails e (with_pairs p (decoded left))
stops_at p left more (Err _) r e y t w = let same : e ≡ Memory = cc in rw same tt
stops_at p left more (Ok pair) r e y t w =
    let d = y.3 in
    let read = rw w at t in
    fails_on p left more y.0 y.1 (cow_str_bytes pair.0) (cow_str_bytes pair.1) e y.2 d.0.2 d.1.2 read
