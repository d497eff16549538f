-- What is read for a geometry is what its value reads as, and what it reads as is read.
use Rattle.std.proofs.Common.{◌≡◌, ℕ, ◌+◌, ◌≤◌, Bool, true, false, cond, IsTrue, List, [], ◌∷◌, Option, None, Some, Result, Ok, Err, refl, sym, ap, subst, ◌∙◌, add-zero, arith, inl, inr, codes, is_some, option_map, option_and_then, ok_or}
use Rattle.std.specs.Prelude.{IfOk}
use Rattle.serde_json.specs.Data.{Data, null, boolean, number, string, array, object}
use Rattle.serde_json.specs.Find.{as_null, as_array, get}
use Rattle.streetmap_grid.specs.Values as values
use Rattle.streetmap_grid.specs.Values.{SimpleValue, GeometryValue}
use Rattle.streetmap_geojson.specs.declared.fault.Fault.{Fault}
use Rattle.streetmap_geojson.specs.declared.fault.Fault.TheVariants.{BadGeometry}
use Rattle.streetmap_geojson.specs.declared.fault.JsonFault.{JsonFault}
use Rattle.streetmap_geojson.specs.declared.kind.Kind.{Kind}
use Rattle.streetmap_geojson.specs.declared.kind.Kind.TheVariants.{Simple, Collection}
use Rattle.streetmap_geojson.specs.declared.kind.SimpleKind.{SimpleKind}
use Rattle.streetmap_geojson.specs.declared.kind.SimpleKind.TheVariants as kinds
use Rattle.streetmap_geojson.specs.Fault.{Gives}
use Rattle.streetmap_geojson.specs.ParsedGeometries.{Read, list_of, under, each, coordinates_as, unless_empty, array_at, kind_at, simple_as, member_as, member_of_collection, somes, collection_of, members, collection, single_of, geometry_as, geometry, max_positions}
use Rattle.streetmap_geojson.specs.Meaning.{AreEach, AreSimple, AreCoordinates, IsArrayAt, ReadsAsSimple, ReadsAsMember, ReadsAsCollection, ReadsAsGeometry, counts, simple_count, position_count, count_if}
use Rattle.streetmap_geojson.specs.FeatureInvariant.{is_oriented_if}
use Rattle.streetmap_geojson.proofs.Directions.{geometry_oriented}
use Rattle.streetmap_geojson.proofs.Steps.{bind_ok, ok_is}
use Rattle.streetmap_geojson.proofs.Takes.{Takes, position_takes, positions_take, line_takes, lines_take, polygon_takes, polygons_take, each_takes}

-- ---- a value under g

under_found : {S A B : Type 0} (R : S → A → Type 0) (size : A → ℕ) (f : S → ℕ → Read A) → Takes R size f → (g : A → B) (P : B → ℕ → Type 0)
    → (d : S) (n : ℕ) → ((a : A) → R d a → P (g a) (n + size a)) → (b : B) (m : ℕ) → under g (f d n) ≡ Ok (b, m) → P b m
under_found {B = B} R size f t g P d n made b m e =
    let x = bind_ok (f d n) _ (b, m) e in
    let k = t.found d n x.0.0 x.0.1 x.1 in
    subst (λ (w : B × ℕ). P w.0 w.1) (ok_is (g x.0.0, x.0.1) (b, m) x.2) (subst (λ (j : ℕ). P (g x.0.0) j) (sym k.1) (made x.0.0 k.0))

under_again : {A B : Type 0} (g : A → B) (read : Read A) (a : A) (m : ℕ) → read ≡ Ok (a, m) → under g read ≡ Ok (g a, m)
under_again g read a m e = rw e refl

-- ---- the elements of `coordinates`

coordinates_found : (k : SimpleKind) (ds : List Data) (n : ℕ) (s : SimpleValue) (m : ℕ) → coordinates_as k ds n ≡ Ok (s, m) → AreSimple k ds s × (m ≡ n + simple_count s)
unfolding coordinates_as
coordinates_found kinds.Point ds n s m e = under_found _ _ _ position_takes values.point (λ w j. AreSimple kinds.Point ds w × (j ≡ n + simple_count w)) ds n (λ a r. (r, refl)) s m e
coordinates_found kinds.MultiPoint ds n s m e = under_found _ _ _ positions_take values.multi_point (λ w j. AreSimple kinds.MultiPoint ds w × (j ≡ n + simple_count w)) ds n (λ a r. (r, refl)) s m e
coordinates_found kinds.LineString ds n s m e = under_found _ _ _ line_takes values.line_string (λ w j. AreSimple kinds.LineString ds w × (j ≡ n + simple_count w)) ds n (λ a r. (r, refl)) s m e
coordinates_found kinds.MultiLineString ds n s m e = under_found _ _ _ lines_take values.multi_line_string (λ w j. AreSimple kinds.MultiLineString ds w × (j ≡ n + simple_count w)) ds n (λ a r. (r, refl)) s m e
coordinates_found kinds.Polygon ds n s m e = under_found _ _ _ polygon_takes values.polygon (λ w j. AreSimple kinds.Polygon ds w × (j ≡ n + simple_count w)) ds n (λ a r. (r, refl)) s m e
coordinates_found kinds.MultiPolygon ds n s m e = under_found _ _ _ polygons_take values.multi_polygon (λ w j. AreSimple kinds.MultiPolygon ds w × (j ≡ n + simple_count w)) ds n (λ a r. (r, refl)) s m e

coordinates_again : (k : SimpleKind) (ds : List Data) (n : ℕ) (s : SimpleValue) → AreSimple k ds s → n + simple_count s ≤ max_positions → coordinates_as k ds n ≡ Ok (s, n + simple_count s)
unfolding coordinates_as
coordinates_again kinds.Point ds n (values.point p) h le = under_again values.point _ p _ (position_takes.again ds n p h le)
coordinates_again kinds.MultiPoint ds n (values.multi_point ps) h le = under_again values.multi_point _ ps _ (positions_take.again ds n ps h le)
coordinates_again kinds.LineString ds n (values.line_string ps) h le = under_again values.line_string _ ps _ (line_takes.again ds n ps h le)
coordinates_again kinds.MultiLineString ds n (values.multi_line_string ls) h le = under_again values.multi_line_string _ ls _ (lines_take.again ds n ls h le)
coordinates_again kinds.Polygon ds n (values.polygon rs) h le = under_again values.polygon _ rs _ (polygon_takes.again ds n rs h le)
coordinates_again kinds.MultiPolygon ds n (values.multi_polygon ps) h le = under_again values.multi_polygon _ ps _ (polygons_take.again ds n ps h le)
coordinates_again _ ds n _ h le = absurd h

pub coordinates_take : (k : SimpleKind) → Takes (AreSimple k) simple_count (coordinates_as k)
coordinates_take k = record { found = coordinates_found k; again = coordinates_again k }

-- ---- that, or none

if_any_found : (k : SimpleKind) (ds : List Data) (n : ℕ) (o : Option SimpleValue) (m : ℕ) → unless_empty (coordinates_as k) ds n ≡ Ok (o, m) → AreCoordinates k ds o × (m ≡ n + count_if simple_count o)
if_any_found k [] n o m e = subst (λ (w : Option SimpleValue × ℕ). AreCoordinates k [] w.0 × (w.1 ≡ n + count_if simple_count w.0)) (ok_is (None, n) (o, m) e) (refl, omega arith)
if_any_found k (d ∷ ds) n o m e = under_found _ _ _ (coordinates_take k) Some (λ w j. AreCoordinates k (d ∷ ds) w × (j ≡ n + count_if simple_count w)) (d ∷ ds) n (λ a r. ((a, r, refl), refl)) o m e

if_any_again : (k : SimpleKind) (ds : List Data) (n : ℕ) (o : Option SimpleValue) → AreCoordinates k ds o → n + count_if simple_count o ≤ max_positions → unless_empty (coordinates_as k) ds n ≡ Ok (o, n + count_if simple_count o)
if_any_again k [] n o h le = rw (h, add-zero) refl
if_any_again k (d ∷ ds) n o h le =
    let fits : n + simple_count h.0 ≤ max_positions = subst (λ (w : Option SimpleValue). n + count_if simple_count w ≤ max_positions) h.2 le in
    let read : unless_empty (coordinates_as k) (d ∷ ds) n ≡ Ok (Some h.0, n + simple_count h.0) = under_again Some _ h.0 _ ((coordinates_take k).again (d ∷ ds) n h.0 h.1 fits) in
    subst (λ (w : Option SimpleValue). unless_empty (coordinates_as k) (d ∷ ds) n ≡ Ok (w, n + count_if simple_count w)) (sym h.2) read

-- ---- the member of a name

or_fault_found : (o : Option (List Data)) (fault : Fault) (ds : List Data) → ok_or o fault ≡ Ok ds → o ≡ Some ds
or_fault_found None fault ds e = absurd cc
or_fault_found (Some x) fault ds e = ap Some (ok_is x ds e)

at_found : (name : List ℕ) (d : Data) (ds : List Data) → array_at name d ≡ Ok ds → IsArrayAt name d ds
at_found name d ds e = or_fault_found (option_map list_of (option_and_then as_array (get name d))) BadGeometry ds e

at_again : (name : List ℕ) (d : Data) (ds : List Data) → IsArrayAt name d ds → array_at name d ≡ Ok ds
at_again name d ds h = ap (λ (o : Option (List Data)). ok_or o BadGeometry) h

simple_found : (k : SimpleKind) (d : Data) (n : ℕ) (o : Option SimpleValue) (m : ℕ) → simple_as k d n ≡ Ok (o, m) → ReadsAsSimple k d o × (m ≡ n + count_if simple_count o)
unfolding simple_as
simple_found k d n o m e =
    let x = bind_ok (array_at (codes "coordinates") d) _ (o, m) e in
    let r = if_any_found k x.0 n o m x.2 in
    ((x.0, at_found (codes "coordinates") d x.0 x.1, r.0), r.1)

simple_again : (k : SimpleKind) (d : Data) (n : ℕ) (o : Option SimpleValue) → ReadsAsSimple k d o → n + count_if simple_count o ≤ max_positions → simple_as k d n ≡ Ok (o, n + count_if simple_count o)
unfolding simple_as
simple_again k d n o h le = rw (at_again (codes "coordinates") d h.0 h.1) (if_any_again k h.0 n o h.2 le)

pub simple_takes : (k : SimpleKind) → Takes (ReadsAsSimple k) (count_if simple_count) (simple_as k)
simple_takes k = record { found = simple_found k; again = simple_again k }

-- ---- a member of `geometries`

part_as_found : (o : Option Kind) (d : Data) (n : ℕ) (s : Option SimpleValue) (m : ℕ) → kind_at d ≡ o → member_as o d n ≡ Ok (s, m) → ReadsAsMember d s × (m ≡ n + count_if simple_count s)
part_as_found None d n s m at e = absurd cc
part_as_found (Some Collection) d n s m at e = let x = bind_ok (array_at (codes "geometries") d) _ (s, m) e in absurd (cc x.2)
part_as_found (Some (Simple k)) d n s m at e = let r = simple_found k d n s m e in (inr (k, at, r.0), r.1)

part_by : (b : Bool) (d : Data) (n : ℕ) (s : Option SimpleValue) (m : ℕ) → is_some (as_null d) ≡ b → cond b (Ok (None, n)) (member_as (kind_at d) d n) ≡ Ok (s, m) → ReadsAsMember d s × (m ≡ n + count_if simple_count s)
part_by true d n s m isnull e = subst (λ (w : Option SimpleValue × ℕ). ReadsAsMember d w.0 × (w.1 ≡ n + count_if simple_count w.0)) (ok_is (None, n) (s, m) e) (inl (isnull, refl), omega arith)
part_by false d n s m isnull e = part_as_found (kind_at d) d n s m refl e

part_found : (d : Data) (n : ℕ) (s : Option SimpleValue) (m : ℕ) → member_of_collection d n ≡ Ok (s, m) → ReadsAsMember d s × (m ≡ n + count_if simple_count s)
unfolding member_of_collection
part_found d n s m e = part_by (is_some (as_null d)) d n s m refl e

-- what has a kind is not null
pub kind_not_null : (d : Data) (k : Kind) → kind_at d ≡ Some k → is_some (as_null d) ≡ false
kind_not_null null k e = absurd cc
kind_not_null (boolean b) k e = refl
kind_not_null (number x) k e = refl
kind_not_null (string s) k e = refl
kind_not_null (array ds) k e = refl
kind_not_null (object ms) k e = refl

part_again : (d : Data) (n : ℕ) (s : Option SimpleValue) → ReadsAsMember d s → n + count_if simple_count s ≤ max_positions → member_of_collection d n ≡ Ok (s, n + count_if simple_count s)
unfolding member_of_collection
part_again d n s (inl h) le = rw (h.0, h.1, add-zero) refl
part_again d n s (inr h) le = rw (kind_not_null d (Simple h.0) h.1, h.1) (simple_again h.0 d n s h.2 le)

pub part_takes : Takes ReadsAsMember (count_if simple_count) member_of_collection
part_takes = record { found = part_found; again = part_again }

-- ---- a collection

somes_size : (os : List (Option SimpleValue)) → counts simple_count (somes os) ≡ counts (count_if simple_count) os
somes_size [] = refl
somes_size (None ∷ os) = omega (arith, somes_size os)
somes_size (Some s ∷ os) = omega (arith, somes_size os)

many_size : (ss : List SimpleValue) → count_if position_count (collection_of ss) ≡ counts simple_count ss
many_size [] = refl
many_size (s ∷ ss) = refl

pub whole_size : (os : List (Option SimpleValue)) → count_if position_count (collection_of (somes os)) ≡ counts (count_if simple_count) os
whole_size os = many_size (somes os) ∙ somes_size os

parts_take : Takes (AreEach ReadsAsMember) (counts (count_if simple_count)) (each member_of_collection)
parts_take = each_takes _ _ _ part_takes

collection_found : (d : Data) (n : ℕ) (o : Option GeometryValue) (m : ℕ) → collection d n ≡ Ok (o, m) → ReadsAsCollection d o × (m ≡ n + count_if position_count o)
unfolding collection
collection_found d n o m e =
    let x = bind_ok (array_at (codes "geometries") d) _ (o, m) e in
    let y = bind_ok (members x.0 n) _ (o, m) x.2 in
    let z = bind_ok (each member_of_collection x.0 n) _ y.0 y.1 in
    let t = parts_take.found x.0 n z.0.0 z.0.1 z.1 in
    let size : z.0.1 ≡ n + count_if position_count (collection_of (somes z.0.0)) = omega (arith, t.1, whole_size z.0.0) in
    let P : Option GeometryValue × ℕ → Type 0 = λ w. ReadsAsCollection d w.0 × (w.1 ≡ n + count_if position_count w.0) in
    let here : P (collection_of (somes z.0.0), z.0.1) = ((x.0, at_found (codes "geometries") d x.0 x.1, (z.0.0, t.0, refl)), size) in
    let next : P (collection_of y.0.0, y.0.1) = subst (λ (w : List SimpleValue × ℕ). P (collection_of w.0, w.1)) (ok_is (somes z.0.0, z.0.1) y.0 z.2) here in
    subst P (ok_is (collection_of y.0.0, y.0.1) (o, m) y.2) next

collection_again : (d : Data) (n : ℕ) (o : Option GeometryValue) → ReadsAsCollection d o → n + count_if position_count o ≤ max_positions → collection d n ≡ Ok (o, n + count_if position_count o)
unfolding collection
collection_again d n o h le =
    let os = h.2.0 in
    let size : count_if position_count o ≡ counts (count_if simple_count) os = ap (count_if position_count) h.2.2 ∙ whole_size os in
    let read = parts_take.again h.0 n os h.2.1 (omega (arith, le, size)) in
    rw (at_again (codes "geometries") d h.0 h.1, read, h.2.2, whole_size os) refl

-- ---- a geometry

one_size : (s : Option SimpleValue) → count_if simple_count s ≡ count_if position_count (single_of s)
one_size None = refl
one_size (Some s) = refl

geometry_as_found : (k : Option Kind) (d : Data) (n : ℕ) (o : Option GeometryValue) (m : ℕ) → kind_at d ≡ k → geometry_as k d n ≡ Ok (o, m) → ReadsAsGeometry d o × (m ≡ n + count_if position_count o)
geometry_as_found None d n o m at e = absurd cc
geometry_as_found (Some Collection) d n o m at e = let r = collection_found d n o m e in (inr (inr (at, r.0)), r.1)
geometry_as_found (Some (Simple k)) d n o m at e =
    under_found _ _ _ (simple_takes k) single_of (λ w j. ReadsAsGeometry d w × (j ≡ n + count_if position_count w)) d n (λ s r. (inr (inl (k, at, (s, r, refl))), ap (λ (j : ℕ). n + j) (one_size s))) o m e

geometry_by : (b : Bool) (d : Data) (n : ℕ) (o : Option GeometryValue) (m : ℕ) → is_some (as_null d) ≡ b → cond b (Ok (None, n)) (geometry_as (kind_at d) d n) ≡ Ok (o, m) → ReadsAsGeometry d o × (m ≡ n + count_if position_count o)
geometry_by true d n o m isnull e = subst (λ (w : Option GeometryValue × ℕ). ReadsAsGeometry d w.0 × (w.1 ≡ n + count_if position_count w.0)) (ok_is (None, n) (o, m) e) (inl (isnull, refl), omega arith)
geometry_by false d n o m isnull e = geometry_as_found (kind_at d) d n o m refl e

geometry_found : (d : Data) (n : ℕ) (o : Option GeometryValue) (m : ℕ) → geometry d n ≡ Ok (o, m) → ReadsAsGeometry d o × (m ≡ n + count_if position_count o)
unfolding geometry
geometry_found d n o m e = geometry_by (is_some (as_null d)) d n o m refl e

geometry_again : (d : Data) (n : ℕ) (o : Option GeometryValue) → ReadsAsGeometry d o → n + count_if position_count o ≤ max_positions → geometry d n ≡ Ok (o, n + count_if position_count o)
unfolding geometry
geometry_again d n o (inl h) le = rw (h.0, h.1, add-zero) refl
geometry_again d n o (inr (inl h)) le =
    let s = h.2.0 in
    let size : count_if position_count o ≡ count_if simple_count s = ap (count_if position_count) h.2.2 ∙ sym (one_size s) in
    let read = simple_again h.0 d n s h.2.1 (omega (arith, le, size)) in
    rw (kind_not_null d (Simple h.0) h.1, h.1, read, h.2.2, one_size s) refl
geometry_again d n o (inr (inr h)) le = rw (kind_not_null d Collection h.0, h.0) (collection_again d n o h.1 le)

pub geometry_takes : Takes ReadsAsGeometry (count_if position_count) geometry
geometry_takes = record { found = geometry_found; again = geometry_again }

-- ---- what a reader answers

pub few_of : {X : Type 0} (view : X → Option GeometryValue) (r : Result X JsonFault) (d : Data) (m : ℕ) → Gives (λ x. (view x, m)) r (geometry d 0) → m ≤ max_positions → IfOk r (λ x. count_if position_count (view x) ≤ max_positions)
few_of view (Ok x) d m h le = let k = geometry_takes.found d 0 (view x) m h in omega (arith, k.1, le)
few_of view (Err e) d m h le = tt

pub oriented_of : {X : Type 0} (view : X → Option GeometryValue) (r : Result X JsonFault) (d : Data) (m : ℕ) → Gives (λ x. (view x, m)) r (geometry d 0) → IfOk r (λ x. IsTrue (is_oriented_if (view x)))
oriented_of view (Ok x) d m h = let k = geometry_takes.found d 0 (view x) m h in geometry_oriented d (view x) k.0
oriented_of view (Err e) d m h = tt
