-- A feature that is read is what its value reads as, and what it reads as is read.
use Rattle.std.proofs.Common.{◌≡◌, ℕ, ◌+◌, ◌≤◌, ℤ, Bool, true, false, IsTrue, List, Option, None, Some, Result, Ok, Err, refl, sym, ap, subst, ◌∙◌, arith, codes, Ordering, Less, Equal, Greater, nat_cmp, max, unwrap_or}
use Rattle.std.specs.Prelude.{IfOk, nat_le, decimal}
use Rattle.std.specs.Fmt.{signed_decimal}
use Rattle.std.specs.Ordering.{match_ordering}
use Rattle.std.specs.Cmp.Lexicographic.{slice_cmp}
use Rattle.std.proofs.lemmas.Bool.{leb-true, le-leb}
use Rattle.serde_json.specs.Data.{Data, null, boolean, number, string, array, object, Members, no_members, member, depth, members_depth}
use Rattle.serde_json.specs.Find.{as_integer, get, get_member}
use Rattle.serde_json.specs.Written.{has_float}
use Rattle.streetmap_grid.specs.Values.{GeometryValue}
use Rattle.streetmap_moment.specs.IntervalValue.{IntervalValue}
use Rattle.streetmap_geojson.specs.declared.fault.Fault.{Fault}
use Rattle.streetmap_geojson.specs.declared.fault.Fault.TheVariants.{WrongType, TooDeep, BadId, BadProperties, Fraction}
use Rattle.streetmap_geojson.specs.declared.fault.JsonFault.{JsonFault}
use Rattle.streetmap_geojson.specs.FeatureValue.{FeatureValue}
use Rattle.streetmap_geojson.specs.Fault.{Gives}
use Rattle.streetmap_geojson.specs.Id.{is_id, number_id, id_from, id_of, place_id}
use Rattle.streetmap_geojson.specs.ParsedGeometries.{geometry, value_of, max_positions}
use Rattle.streetmap_geojson.specs.Meaning.{ReadsAsGeometry, count_if, position_count}
use Rattle.streetmap_geojson.specs.Times.{time_of, as_fault}
use Rattle.streetmap_geojson.specs.ParsedFeatures.{unless, max_levels, is_feature, is_properties, properties_of, member_of, feature, feature_at}
use Rattle.streetmap_geojson.specs.FeatureMeaning.{IsId, IsIdOf, ReadsAs, ReadsAt}
use Rattle.streetmap_geojson.proofs.Steps.{bind_ok, guard_ok, passed_ok, ok_is}
use Rattle.streetmap_geojson.proofs.Geometries.{geometry_takes}
use Rattle.streetmap_geojson.proofs.Bounds.{geometry_bounded}
use Rattle.streetmap_geojson.proofs.Timing.{time_found, time_again}

unless_ok : (b : Bool) (fault : Fault) (t : Bool) → unless b fault ≡ Ok t → IsTrue b
unless_ok b fault t e = (passed_ok b fault (Ok true) t e).0

-- ---- ids

number_id_found : (o : Option ℤ) (id : List ℕ) → number_id o ≡ Ok id → (z : ℤ) × (o ≡ Some z) × (id ≡ signed_decimal z)
number_id_found None id e = absurd cc
number_id_found (Some z) id e = (z, refl, sym (ok_is (signed_decimal z) id e))

id_from_found : (d : Data) (id : List ℕ) → id_from d ≡ Ok id → IsId d id
id_from_found (string s) id e =
    let g = passed_ok (is_id s) BadId (Ok s) id e in
    (g.0, sym (ok_is s id g.1))
id_from_found (number n) id e = number_id_found (as_integer n) id e
id_from_found null id e = absurd cc
id_from_found (boolean b) id e = absurd cc
id_from_found (array ds) id e = absurd cc
id_from_found (object ms) id e = absurd cc

id_from_again : (d : Data) (id : List ℕ) → IsId d id → id_from d ≡ Ok id
id_from_again (string s) id h = rw (h.0, h.1) refl
id_from_again (number n) id h = rw (h.1, h.2) refl
id_from_again null id h = absurd h
id_from_again (boolean b) id h = absurd h
id_from_again (array ds) id h = absurd h
id_from_again (object ms) id h = absurd h

place_id_found : (place : Option ℕ) (id : List ℕ) → place_id place ≡ Ok id → (n : ℕ) × (place ≡ Some n) × (id ≡ decimal n)
place_id_found None id e = absurd cc
place_id_found (Some n) id e = (n, refl, sym (ok_is (decimal n) id e))

id_of_found : (place : Option ℕ) (o : Option Data) (id : List ℕ) → id_of place o ≡ Ok id → IsIdOf place o id
id_of_found place None id e = place_id_found place id e
id_of_found place (Some d) id e = id_from_found d id e

id_of_again : (place : Option ℕ) (o : Option Data) (id : List ℕ) → IsIdOf place o id → id_of place o ≡ Ok id
id_of_again place None id h = rw (h.1, h.2) refl
id_of_again place (Some d) id h = id_from_again d id h

-- ---- properties

properties_found : (d ps : Data) → properties_of d ≡ Ok ps → (ps ≡ d) × IsTrue (is_properties ps) × (has_float ps ≡ false)
properties_found d ps e =
    let g = passed_ok (is_properties d) BadProperties _ ps e in
    let k = guard_ok (has_float d) Fraction (Ok d) ps g.1 in
    let same : d ≡ ps = ok_is d ps k.1 in
    subst (λ (w : Data). (w ≡ d) × IsTrue (is_properties w) × (has_float w ≡ false)) same (refl, g.0, k.0)

properties_again : (ps : Data) → IsTrue (is_properties ps) → has_float ps ≡ false → properties_of ps ≡ Ok ps
properties_again ps h k = rw (h, k) refl

-- ---- features

place_again : (d : Data) (o : Option GeometryValue) → ReadsAsGeometry d o → count_if position_count o ≤ max_positions → value_of (geometry d 0) ≡ Ok o
place_again d o h le =
    let read = geometry_takes.again d 0 o h (omega (arith, le)) in
    rw read refl

abbrev made : List ℕ → Option GeometryValue → Data → Option IntervalValue → FeatureValue
made id g ps time = record { id = id; geometry = g; properties = ps; time = time }

pub feature_found : (place : Option ℕ) (time_property : Option (List ℕ)) (d : Data) (f : FeatureValue) → feature_at place time_property d ≡ Ok f → ReadsAt place time_property d f
unfolding feature_at
feature_found place time_property d f is =
    let t = bind_ok (unless (is_feature d) WrongType) _ f is in
    let l = bind_ok (unless (nat_le (depth d) max_levels) TooDeep) _ f t.2 in
    let i = bind_ok (id_of place (get (codes "id") d)) _ f l.2 in
    let g = bind_ok (value_of (geometry (member_of (codes "geometry") d) 0)) _ f i.2 in
    let p = bind_ok (properties_of (member_of (codes "properties") d)) _ f g.2 in
    let w = bind_ok (as_fault (time_of time_property p.0)) _ f p.2 in
    let read = bind_ok (geometry (member_of (codes "geometry") d) 0) (λ x. Ok x.0) g.0 g.1 in
    let same : read.0.0 ≡ g.0 = ok_is read.0.0 g.0 read.2 in
    let found = geometry_takes.found (member_of (codes "geometry") d) 0 read.0.0 read.0.1 read.1 in
    let bound = geometry_bounded (member_of (codes "geometry") d) 0 read.0.0 read.0.1 read.1 (omega arith) in
    let few : count_if position_count g.0 ≤ max_positions = omega (arith, bound, found.1, ap (count_if position_count) same) in
    let ps = properties_found (member_of (codes "properties") d) p.0 p.1 in
    subst (λ (v : FeatureValue). ReadsAt place time_property d v) (ok_is (made i.0 g.0 p.0 w.0) f w.2) (record {
      typed = unless_ok (is_feature d) WrongType t.0 t.1;
      flat = leb-true (depth d) max_levels (unless_ok (nat_le (depth d) max_levels) TooDeep l.0 l.1);
      named = id_of_found place (get (codes "id") d) i.0 i.1;
      placed = subst (λ (v : Option GeometryValue). ReadsAsGeometry (member_of (codes "geometry") d) v) same found.0;
      few = few;
      reported = ps.0;
      kept = ps.1;
      whole = ps.2;
      timed = time_found time_property p.0 w.0 w.1;
    })

pub feature_again : (place : Option ℕ) (time_property : Option (List ℕ)) (d : Data) (f : FeatureValue) → ReadsAt place time_property d f → feature_at place time_property d ≡ Ok f
unfolding feature_at
feature_again place time_property d f h =
    let props : properties_of (member_of (codes "properties") d) ≡ Ok f.properties = rw (← h.reported) (properties_again f.properties h.kept h.whole) in
    rw (h.typed, le-leb (depth d) max_levels h.flat, id_of_again place (get (codes "id") d) f.id h.named, place_again (member_of (codes "geometry") d) f.geometry h.placed h.few, props, time_again time_property f.properties f.time h.timed) refl

pub is_found : {X : Type 0} (view : X → FeatureValue) (r : Result X JsonFault) (time_property : Option (List ℕ)) (d : Data) → Gives view r (feature time_property d) → IfOk r (λ x. ReadsAs time_property d (view x))
is_found view (Ok x) time_property d h = feature_found None time_property d (view x) h
is_found view (Err e) time_property d h = tt

pub is_read : {X : Type 0} (view : X → FeatureValue) (r : Result X JsonFault) (time_property : Option (List ℕ)) (d : Data) → Gives view r (feature time_property d) → (f : FeatureValue) → ReadsAs time_property d f → Gives view r (Ok f)
is_read view r time_property d h f reads = subst (λ (w : Result FeatureValue Fault). Gives view r w) (feature_again None time_property d f reads) h

-- a value reads as one feature at most
pub reads_once : (time_property : Option (List ℕ)) (d : Data) (f g : FeatureValue) → ReadsAs time_property d f → ReadsAs time_property d g → f ≡ g
reads_once time_property d f g h k = ok_is f g (sym (feature_again None time_property d f h) ∙ feature_again None time_property d g k)

-- ---- depth

by_order : (o : Ordering) (rest : Option Data) (x : Data) (k : ℕ) (d : Data) → (rest ≡ Some d → depth d ≤ k) → match_ordering o rest (Some x) rest ≡ Some d → depth d ≤ max (depth x) k
by_order Less rest x k d h e = let low = h e in omega (arith, low)
by_order Equal rest x k d h e = let same : x ≡ d = cc in omega (arith, ap depth same)
by_order Greater rest x k d h e = let low = h e in omega (arith, low)

member_depth : (name : List ℕ) (ms : Members) (d : Data) → get_member name ms ≡ Some d → depth d ≤ members_depth ms
member_depth name no_members d e = absurd cc
member_depth name (member l x ms) d e = by_order (slice_cmp nat_cmp name l) (get_member name ms) x (members_depth ms) d (λ found. member_depth name ms d found) e

got_depth : (name : List ℕ) (d x : Data) → get name d ≡ Some x → depth x + 1 ≤ depth d
got_depth name (object ms) x e = let k = member_depth name ms x e in omega (arith, k)
got_depth name null x e = absurd cc
got_depth name (boolean b) x e = absurd cc
got_depth name (number n) x e = absurd cc
got_depth name (string s) x e = absurd cc
got_depth name (array ds) x e = absurd cc

found_flat : (o : Option Data) (d : Data) → ((x : Data) → o ≡ Some x → depth x + 1 ≤ depth d) → depth d ≤ 64 → depth (unwrap_or o null) ≤ 63
found_flat None d h le = omega arith
found_flat (Some x) d h le = let k = h x refl in omega (arith, k, le)

pub flat_of : {X : Type 0} (view : X → Data) (r : Result X JsonFault) (name : List ℕ) (d : Data) → Gives view r (properties_of (member_of name d)) → depth d ≤ 64 → IfOk r (λ x. depth (view x) ≤ 63)
flat_of view (Ok x) name d h le =
    let is = properties_found (member_of name d) (view x) h in
    rw is.0 (found_flat (get name d) d (got_depth name d) le)
flat_of view (Err e) name d h le = tt
