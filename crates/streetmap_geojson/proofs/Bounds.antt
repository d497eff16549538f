-- No more positions are read than allowed.
use Rattle.std.proofs.Common.{◌≡◌, ℕ, ◌+◌, ◌<◌, ◌≤◌, Bool, true, false, cond, ltb, List, [], ◌∷◌, length, Option, None, Some, Ok, Err, refl, subst, arith, codes, is_some}
use Rattle.std.proofs.lemmas.Bool.{ltb-true}
use Rattle.serde_json.specs.Data.{Data, null, boolean, number, string, array, object}
use Rattle.serde_json.specs.Find.{as_null}
use Rattle.streetmap_grid.specs.Values as values
use Rattle.streetmap_geojson.specs.declared.fault.Fault.{Fault}
use Rattle.streetmap_geojson.specs.declared.fault.Fault.TheVariants.{BadPosition, TooManyPositions, ShortLine, BadGeometry}
use Rattle.streetmap_geojson.specs.declared.kind.Kind.{Kind}
use Rattle.streetmap_geojson.specs.declared.kind.Kind.TheVariants.{Simple, Collection}
use Rattle.streetmap_geojson.specs.declared.kind.SimpleKind.{SimpleKind}
use Rattle.streetmap_geojson.specs.declared.kind.SimpleKind.TheVariants as kinds
use Rattle.streetmap_geojson.specs.ParsedGeometries.{Read, position_of, position, inside, each, positions, line, lines, ends_of, ring, rings, some_rings, polygon, polygons, under, coordinates_as, unless_empty, array_at, kind_at, simple_as, member_as, member_of_collection, members, collection, single_of, collection_of, somes, geometry_as, geometry, max_positions}
use Rattle.streetmap_geojson.proofs.Steps.{bind_ok, guard_ok, passed_ok, ok_is}

abbrev pub Bounded : {S A : Type 0} → (S → ℕ → Read A) → Type 0
Bounded {S} {A} f = (d : S) (n : ℕ) (a : A) (m : ℕ) → f d n ≡ Ok (a, m) → n ≤ max_positions → m ≤ max_positions

-- the count at the end of a step
at_end : {A : Type 0} (a b : A) (k m : ℕ) → (let done : Read A = Ok (a, k) in done) ≡ Ok (b, m) → k ≤ max_positions → m ≤ max_positions
at_end {A} a b k m e le = let is : (a, k) ≡ (b, m) = ok_is (a, k) (b, m) e in subst (λ (w : A × ℕ). w.1 ≤ max_positions) is le

under_bound : {A B : Type 0} (g : A → B) (read : Read A) (b : B) (m : ℕ) → ((a : A) (k : ℕ) → read ≡ Ok (a, k) → k ≤ max_positions) → under g read ≡ Ok (b, m) → m ≤ max_positions
under_bound g (Ok x) b m low e = at_end (g x.0) b x.1 m e (low x.0 x.1 refl)
under_bound g (Err f) b m low e = absurd cc

position_bounded : Bounded position
unfolding position
position_bounded ds n p m e le =
    let g = passed_ok (ltb n max_positions) TooManyPositions _ (p, m) e in
    let q = bind_ok (position_of ds) _ (p, m) g.1 in
    let lt : n < max_positions = ltb-true n max_positions g.0 in
    at_end q.0 p (n + 1) m q.2 (omega (arith, lt))

inside_bounded : {A : Type 0} (fault : Fault) (f : List Data → ℕ → Read A) → Bounded f → Bounded (inside fault f)
unfolding inside
inside_bounded fault f b (array ds) n a m e le = b _ n a m e le
inside_bounded fault f b null n a m e le = absurd cc
inside_bounded fault f b (boolean x) n a m e le = absurd cc
inside_bounded fault f b (number x) n a m e le = absurd cc
inside_bounded fault f b (string s) n a m e le = absurd cc
inside_bounded fault f b (object ms) n a m e le = absurd cc

each_bounded : {A : Type 0} (f : Data → ℕ → Read A) → Bounded f → Bounded (each f)
unfolding each
each_bounded {A} f b [] n xs m e le = at_end {A = List A} [] xs n m e le
each_bounded {A} f b (d ∷ ds) n xs m e le =
    let x = bind_ok (f d n) _ (xs, m) e in
    let rest = bind_ok (each f ds x.0.1) _ (xs, m) x.2 in
    let one = b d n x.0.0 x.0.1 x.1 le in
    at_end {A = List A} (x.0.0 ∷ rest.0.0) xs rest.0.1 m rest.2 (each_bounded f b ds x.0.1 rest.0.0 rest.0.1 rest.1 one)

positions_bounded : Bounded positions
positions_bounded = each_bounded (inside BadPosition position) (inside_bounded BadPosition position position_bounded)

line_bounded : Bounded line
unfolding line
line_bounded ds n ps m e le =
    let x = bind_ok (positions ds n) _ (ps, m) e in
    let g = guard_ok (ltb (length x.0.0) 2) ShortLine (Ok x.0) (ps, m) x.2 in
    at_end x.0.0 ps x.0.1 m g.1 (positions_bounded ds n x.0.0 x.0.1 x.1 le)

ring_bounded : Bounded ring
unfolding ring
ring_bounded ds n ps m e le =
    let x = bind_ok (positions ds n) _ (ps, m) e in
    let y = bind_ok (ends_of x.0.0) _ (ps, m) x.2 in
    at_end y.0 ps x.0.1 m y.2 (positions_bounded ds n x.0.0 x.0.1 x.1 le)

lines_bounded : Bounded lines
lines_bounded = each_bounded (inside BadGeometry line) (inside_bounded BadGeometry line line_bounded)

rings_bounded : Bounded rings
rings_bounded = each_bounded (inside BadGeometry ring) (inside_bounded BadGeometry ring ring_bounded)

polygon_bounded : Bounded polygon
unfolding polygon
polygon_bounded ds n rs m e le =
    let x = bind_ok (rings ds n) _ (rs, m) e in
    let y = bind_ok (some_rings x.0.0) _ (rs, m) x.2 in
    at_end y.0 rs x.0.1 m y.2 (rings_bounded ds n x.0.0 x.0.1 x.1 le)

polygons_bounded : Bounded polygons
polygons_bounded = each_bounded (inside BadGeometry polygon) (inside_bounded BadGeometry polygon polygon_bounded)

coordinates_bounded : (k : SimpleKind) → Bounded (coordinates_as k)
unfolding coordinates_as
coordinates_bounded kinds.Point ds n s m e le = under_bound values.point (position ds n) s m (λ a k r. position_bounded ds n a k r le) e
coordinates_bounded kinds.MultiPoint ds n s m e le = under_bound values.multi_point (positions ds n) s m (λ a k r. positions_bounded ds n a k r le) e
coordinates_bounded kinds.LineString ds n s m e le = under_bound values.line_string (line ds n) s m (λ a k r. line_bounded ds n a k r le) e
coordinates_bounded kinds.MultiLineString ds n s m e le = under_bound values.multi_line_string (lines ds n) s m (λ a k r. lines_bounded ds n a k r le) e
coordinates_bounded kinds.Polygon ds n s m e le = under_bound values.polygon (polygon ds n) s m (λ a k r. polygon_bounded ds n a k r le) e
coordinates_bounded kinds.MultiPolygon ds n s m e le = under_bound values.multi_polygon (polygons ds n) s m (λ a k r. polygons_bounded ds n a k r le) e

if_any_bounded : (k : SimpleKind) → Bounded (unless_empty (coordinates_as k))
if_any_bounded k [] n o m e le = at_end None o n m e le
if_any_bounded k (d ∷ ds) n o m e le = under_bound Some (coordinates_as k (d ∷ ds) n) o m (λ a j r. coordinates_bounded k (d ∷ ds) n a j r le) e

simple_bounded : (k : SimpleKind) → Bounded (simple_as k)
unfolding simple_as
simple_bounded k d n o m e le =
    let x = bind_ok (array_at (codes "coordinates") d) _ (o, m) e in
    if_any_bounded k x.0 n o m x.2 le

part_as_bounded : (k : Option Kind) → Bounded (member_as k)
part_as_bounded None d n s m e le = absurd cc
part_as_bounded (Some Collection) d n s m e le = let x = bind_ok (array_at (codes "geometries") d) _ (s, m) e in absurd (cc x.2)
part_as_bounded (Some (Simple k)) d n s m e le = simple_bounded k d n s m e le

or_none : {A : Type 0} (b : Bool) (read : Read (Option A)) (n : ℕ) (o : Option A) (m : ℕ) → cond b (Ok (None, n)) read ≡ Ok (o, m) → n ≤ max_positions → (read ≡ Ok (o, m) → m ≤ max_positions) → m ≤ max_positions
or_none true read n o m e le low = at_end None o n m e le
or_none false read n o m e le low = low e

part_bounded : Bounded member_of_collection
unfolding member_of_collection
part_bounded d n s m e le = or_none (is_some (as_null d)) (member_as (kind_at d) d n) n s m e le (λ r. part_as_bounded (kind_at d) d n s m r le)

parts_bounded : Bounded members
parts_bounded ds n ss m e le = under_bound somes (each member_of_collection ds n) ss m (λ a k r. each_bounded member_of_collection part_bounded ds n a k r le) e

collection_bounded : Bounded collection
unfolding collection
collection_bounded d n o m e le =
    let x = bind_ok (array_at (codes "geometries") d) _ (o, m) e in
    under_bound collection_of (members x.0 n) o m (λ a k r. parts_bounded x.0 n a k r le) x.2

geometry_as_bounded : (k : Option Kind) → Bounded (geometry_as k)
geometry_as_bounded None d n o m e le = absurd cc
geometry_as_bounded (Some Collection) d n o m e le = collection_bounded d n o m e le
geometry_as_bounded (Some (Simple k)) d n o m e le = under_bound single_of (simple_as k d n) o m (λ a j r. simple_bounded k d n a j r le) e

pub geometry_bounded : Bounded geometry
unfolding geometry
geometry_bounded d n o m e le = or_none (is_some (as_null d)) (geometry_as (kind_at d) d n) n o m e le (λ r. geometry_as_bounded (kind_at d) d n o m r le)
