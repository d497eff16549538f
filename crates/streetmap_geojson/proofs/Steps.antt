-- A reading step by step.
use Rattle.serde_json.specs.Data.{Data}
use Rattle.streetmap_geojson.specs.ParsedGeometries.{Read, each}
use Rattle.std.proofs.Common.{List, [], ◌∷◌, length, suc, sym, ap, ◌∙◌, ◌≡◌, ℕ, Bool, true, false, cond, Result, Ok, Err, refl}
use Rattle.streetmap_geojson.specs.declared.fault.Fault.{Fault}
use Rattle.streetmap_geojson.specs.Fault.{◌>>=◌}

-- the value of a step that did not fail
pub bind_ok : {A B : Type 0} (r : Result A Fault) (f : A → Result B Fault) (y : B) → (r >>= f) ≡ Ok y → (x : A) × (r ≡ Ok x) × (f x ≡ Ok y)
bind_ok (Ok x) f y e = (x, refl, e)
bind_ok (Err d) f y e = absurd cc

-- a test that did not fail
pub guard_ok : {A : Type 0} (b : Bool) (d : Fault) (r : Result A Fault) (y : A) → cond b (Err d) r ≡ Ok y → (b ≡ false) × (r ≡ Ok y)
guard_ok true d r y e = absurd cc
guard_ok false d r y e = (refl, e)

pub passed_ok : {A : Type 0} (b : Bool) (d : Fault) (r : Result A Fault) (y : A) → cond b r (Err d) ≡ Ok y → (b ≡ true) × (r ≡ Ok y)
passed_ok true d r y e = (refl, e)
passed_ok false d r y e = absurd cc

pub ok_is : {A : Type 0} (x y : A) → (let done : Result A Fault = Ok x in done) ≡ Ok y → x ≡ y
ok_is x y e = cc

-- the number of values read is the number of elements
pub each_length : {A : Type 0} (f : Data → ℕ → Read A) (ds : List Data) (n : ℕ) (xs : List A) (m : ℕ) → each f ds n ≡ Ok (xs, m) → length xs ≡ length ds
unfolding each
each_length {A} f [] n xs m e = let is : ([], n) ≡ (xs, m) = ok_is ([], n) (xs, m) e in ap (λ (w : List A × ℕ). length w.0) (sym is)
each_length {A} f (d ∷ ds) n xs m e =
    let x = bind_ok (f d n) _ (xs, m) e in
    let rest = bind_ok (each f ds x.0.1) _ (xs, m) x.2 in
    let is : (x.0.0 ∷ rest.0.0, rest.0.1) ≡ (xs, m) = ok_is (x.0.0 ∷ rest.0.0, rest.0.1) (xs, m) rest.2 in
    ap (λ (w : List A × ℕ). length w.0) (sym is) ∙ ap suc (each_length f ds x.0.1 rest.0.0 rest.0.1 rest.1)
