-- Features read from left to right.
use Rattle.std.proofs.Common.{◌≡◌, ℕ, suc, ◌+◌, ◌<◌, ◌≤◌, List, [], ◌∷◌, ◌++◌, length, map, drop, get_or, Option, None, Some, Result, Ok, Err, option_map, option_and_then, IsTrue, Bool, true, false, cond, codes, refl, sym, ap, subst, ◌∙◌, append_assoc, add-one, drop-cons}
use Rattle.std.specs.Prelude.{IfOk}
use Rattle.std.proofs.lemmas.List.{append-nil}
use Rattle.std.proofs.Math.ListN.{drop_of_length-le}
use Rattle.serde_json.specs.Data.{Data}
use Rattle.serde_json.specs.Find.{as_array, get}
use Rattle.streetmap_geojson.specs.declared.fault.Fault.{Fault}
use Rattle.streetmap_geojson.specs.declared.fault.Fault.TheVariants.{WrongType}
use Rattle.streetmap_geojson.specs.declared.fault.CollectionFault.{CollectionFault}
use Rattle.streetmap_geojson.specs.declared.fault.CollectionFault.TheVariants as faults
use Rattle.streetmap_geojson.specs.FeatureValue.{FeatureValue}
use Rattle.streetmap_geojson.specs.ParsedGeometries.{list_of}
use Rattle.streetmap_geojson.specs.ParsedFeatures.{feature_at}
use Rattle.streetmap_geojson.specs.Collection.{at_place, and_more, features_after, is_collection, features_in, features, AreAfter, AreFeatures, FailsAt, GivesAt}
use Rattle.streetmap_geojson.proofs.Wholes.{feature_found, feature_again}

abbrev pub with_front : List FeatureValue → Result (List FeatureValue) CollectionFault → Result (List FeatureValue) CollectionFault
with_front front (Ok es) = Ok (front ++ es)
with_front front (Err f) = Err f

regroup : (front : List FeatureValue) (e : FeatureValue) (read : Result (List FeatureValue) CollectionFault) → with_front front (and_more (Ok e) read) ≡ with_front (front ++ e ∷ []) read
regroup front e (Ok es) = ap (λ (xs : List FeatureValue). Ok xs) (simp append_assoc)
regroup front e (Err f) = refl

left_is : {V : Type 0} (view : V → Data) (vs : List V) (i : ℕ) (v : V) → i < length vs → v ≡ get_or vs i v → map view (drop i vs) ≡ view v ∷ map view (drop (i + 1) vs)
left_is view vs i v lt is = rw (add-one, drop-cons vs i v lt) (ap (λ w. view w ∷ map view (drop (suc i) vs)) (sym is))

pub goes_on : {V : Type 0} (time_property : Option (List ℕ)) (view : V → Data) (vs : List V) (i : ℕ) (v : V) (front : List FeatureValue) (e : FeatureValue) (total : Result (List FeatureValue) CollectionFault)
    → i < length vs → v ≡ get_or vs i v → at_place (i + 1) (feature_at (Some (i + 1)) time_property (view v)) ≡ Ok e
    → with_front front (features_after i time_property (map view (drop i vs))) ≡ total → with_front (front ++ e ∷ []) (features_after (i + 1) time_property (map view (drop (i + 1) vs))) ≡ total
unfolding features_after
goes_on time_property view vs i v front e total lt is read so_far =
    let one : with_front front (features_after i time_property (map view (drop i vs))) ≡ with_front (front ++ e ∷ []) (features_after (i + 1) time_property (map view (drop (i + 1) vs))) =
    rw (left_is view vs i v lt is, read) (regroup front e (features_after (i + 1) time_property (map view (drop (i + 1) vs)))) in
    sym one ∙ so_far

failed : (front : List FeatureValue) (f : CollectionFault) (r : Result FeatureValue CollectionFault) (more : Result (List FeatureValue) CollectionFault) → FailsAt f r → FailsAt f (with_front front (and_more r more))
failed front faults.Memory r more h = tt
failed front (faults.Fault f) r more h = rw h refl
failed front (faults.At n f) r more h = rw h refl

pub ends : {V : Type 0} (time_property : Option (List ℕ)) (view : V → Data) (vs : List V) (i : ℕ) (v : V) (f : CollectionFault) (front : List FeatureValue) (total : Result (List FeatureValue) CollectionFault)
    → i < length vs → v ≡ get_or vs i v → FailsAt f (at_place (i + 1) (feature_at (Some (i + 1)) time_property (view v)))
    → with_front front (features_after i time_property (map view (drop i vs))) ≡ total → FailsAt f total
unfolding features_after
ends time_property view vs i v f front total lt is read so_far =
    let one : with_front front (features_after i time_property (map view (drop i vs))) ≡ with_front front (and_more (at_place (i + 1) (feature_at (Some (i + 1)) time_property (view v))) (features_after (i + 1) time_property (map view (drop (i + 1) vs)))) = rw (left_is view vs i v lt is) refl in
    subst (λ (w : Result (List FeatureValue) CollectionFault). FailsAt f w) (sym one ∙ so_far) (failed front f _ _ read)

pub is_done : {V : Type 0} (time_property : Option (List ℕ)) (view : V → Data) (vs : List V) (i : ℕ) (front : List FeatureValue) (total : Result (List FeatureValue) CollectionFault)
    → length vs ≤ i → with_front front (features_after i time_property (map view (drop i vs))) ≡ total → total ≡ Ok front
unfolding features_after
is_done time_property view vs i front total le so_far =
    let one : with_front front (features_after i time_property (map view (drop i vs))) ≡ Ok front = rw (drop_of_length-le vs le) (ap (λ (xs : List FeatureValue). Ok xs) (append-nil front)) in
    sym so_far ∙ one

pub starts : (read : Result (List FeatureValue) CollectionFault) → with_front [] read ≡ read
starts (Ok es) = refl
starts (Err f) = refl

-- ---- what is read is what the value reads as

placed_ok : (n : ℕ) (r : Result FeatureValue Fault) (e : FeatureValue) → at_place n r ≡ Ok e → r ≡ Ok e
placed_ok n (Ok x) e h = let same : x ≡ e = cc in ap (λ (w : FeatureValue). Ok w) same
placed_ok n (Err f) e h = absurd cc

more_ok : (r : Result FeatureValue CollectionFault) (more : Result (List FeatureValue) CollectionFault) (es : List FeatureValue) → and_more r more ≡ Ok es → (e : FeatureValue) × (rest : List FeatureValue) × (r ≡ Ok e) × (more ≡ Ok rest) × (e ∷ rest ≡ es)
more_ok (Ok e) (Ok rest) es h = let same : e ∷ rest ≡ es = cc in (e, rest, refl, refl, same)
more_ok (Ok e) (Err f) es h = absurd cc
more_ok (Err g) more es h = absurd cc

after_found : (time_property : Option (List ℕ)) (n : ℕ) (ds : List Data) (es : List FeatureValue) → features_after n time_property ds ≡ Ok es → AreAfter n time_property ds es
unfolding features_after
after_found time_property n [] [] h = tt
after_found time_property n [] (e ∷ es) h = absurd cc
after_found time_property n (d ∷ ds) es h =
    let m = more_ok (at_place (n + 1) (feature_at (Some (n + 1)) time_property d)) (features_after (n + 1) time_property ds) es h in
    let is : m.0 ∷ m.1 ≡ es = m.4 in
    let one = feature_found (Some (n + 1)) time_property d m.0 (placed_ok (n + 1) (feature_at (Some (n + 1)) time_property d) m.0 m.2) in
    let more = after_found time_property (n + 1) ds m.1 m.3 in
    subst (λ (w : List FeatureValue). AreAfter n time_property (d ∷ ds) w) is (one, more)

after_again : (time_property : Option (List ℕ)) (n : ℕ) (ds : List Data) (es : List FeatureValue) → AreAfter n time_property ds es → features_after n time_property ds ≡ Ok es
unfolding features_after
after_again time_property n [] [] h = refl
after_again time_property n [] (e ∷ es) h = absurd h
after_again time_property n (d ∷ ds) [] h = absurd h
after_again time_property n (d ∷ ds) (e ∷ es) h = rw (feature_again (Some (n + 1)) time_property d e h.0, after_again time_property (n + 1) ds es h.1) refl

in_found : (time_property : Option (List ℕ)) (o : Option (List Data)) (es : List FeatureValue) → features_in time_property o ≡ Ok es → (ds : List Data) × (o ≡ Some ds) × AreAfter 0 time_property ds es
in_found time_property None es h = absurd cc
in_found time_property (Some ds) es h = (ds, refl, after_found time_property 0 ds es h)

tested : (b : Bool) (read : Result (List FeatureValue) CollectionFault) (es : List FeatureValue) → cond b read (Err (faults.Fault WrongType)) ≡ Ok es → IsTrue b × (read ≡ Ok es)
tested true read es h = (refl, h)
tested false read es h = absurd cc

features_found : (time_property : Option (List ℕ)) (d : Data) (es : List FeatureValue) → features time_property d ≡ Ok es → AreFeatures time_property d es
features_found time_property d es h =
    let t = tested (is_collection d) (features_in time_property (option_map list_of (option_and_then as_array (get (codes "features") d)))) es h in
    (t.0, in_found time_property (option_map list_of (option_and_then as_array (get (codes "features") d))) es t.1)

features_again : (time_property : Option (List ℕ)) (d : Data) (es : List FeatureValue) → AreFeatures time_property d es → features time_property d ≡ Ok es
features_again time_property d es h = rw (h.0, h.1.1) (after_again time_property 0 h.1.0 es h.1.2)

pub are_found : {X : Type 0} (view : X → List FeatureValue) (r : Result X CollectionFault) (time_property : Option (List ℕ)) (d : Data) → GivesAt view r (features time_property d) → IfOk r (λ x. AreFeatures time_property d (view x))
are_found view (Ok x) time_property d h = features_found time_property d (view x) h
are_found view (Err e) time_property d h = tt

pub are_read : {X : Type 0} (view : X → List FeatureValue) (r : Result X CollectionFault) (time_property : Option (List ℕ)) (d : Data) → GivesAt view r (features time_property d) → (es : List FeatureValue) → AreFeatures time_property d es → GivesAt view r (Ok es)
are_read view r time_property d h es reads = subst (λ (w : Result (List FeatureValue) CollectionFault). GivesAt view r w) (features_again time_property d es reads) h
