-- What is written reads as what it was written for.
use Rattle.std.proofs.Common.{◌≡◌, ℕ, ◌≤◌, ℤ, pos, negsuc, Bool, true, false, ◌&&◌, IsTrue, All, List, [], ◌∷◌, length, map, Option, None, Some, option_map, refl, sym, ap, ◌∙◌, arith, inl, inr}
use Rattle.std.specs.List.{list_all}
use Rattle.std.proofs.lemmas.List.{length-map}
use Rattle.std.proofs.lemmas.List.Elements.{All-head, All-tail}
use Rattle.std.proofs.lemmas.Int.{ints}
use Rattle.serde_json.specs.Data.{Data, array, depth, items_depth}
use Rattle.serde_json.specs.Find.{of_integer, as_integer}
use Rattle.serde_json.specs.View.{items_of}
use Rattle.serde_json.specs.Written.{has_float, items_have_float}
use Rattle.streetmap_grid.specs.Range.{IsCoordinate, is_coordinate}
use Rattle.streetmap_grid.specs.Ring.{turned, oriented, is_right, is_oriented_polygon}
use Rattle.streetmap_grid.specs.Values as values
use Rattle.streetmap_grid.specs.Values.{PositionValue, SimpleValue, GeometryValue}
use Rattle.streetmap_grid.specs.WellFormed.{IsInGrid, IsLine, IsRing, IsPolygon, IsSimple, is_oriented_simple}
use Rattle.streetmap_grid.proofs.Turning.{turned_kept}
use Rattle.streetmap_geojson.specs.declared.kind.Kind.TheVariants.{Simple}
use Rattle.streetmap_geojson.specs.declared.kind.SimpleKind.{SimpleKind}
use Rattle.streetmap_geojson.specs.declared.kind.SimpleKind.TheVariants as kinds
use Rattle.streetmap_geojson.specs.FeatureValue.{FeatureValue, untimed}
use Rattle.streetmap_geojson.specs.FeatureInvariant.{IsGeometryIf, is_oriented_if, IsFeature}
use Rattle.streetmap_geojson.specs.ParsedGeometries.{list_of, kind_at, somes, collection_of}
use Rattle.streetmap_geojson.specs.Meaning.{ReadsAsCoordinate, ArePosition, IsArray, AreEach, AreLine, AreRing, ArePolygon, AreSimple, AreCoordinates, ReadsAsSimple, ReadsAsMember, ReadsAsGeometry}
use Rattle.streetmap_geojson.specs.FeatureMeaning.{ReadsAs, ReadsAt}
use Rattle.streetmap_feature_text.specs.Written.{number_data, position_elements, position_data, line_data, polygon_data, coordinates_of, simple_data, geometry_member, feature_data}
use Rattle.streetmap_geojson.proofs.Lists.{list_of-items_of}

pub both : (a b : Bool) → IsTrue (a && b) → IsTrue a × IsTrue b
both true true h = (refl, refl)
both true false h = absurd cc
both false b h = absurd cc

whole_of : (z : ℤ) → as_integer (of_integer z) ≡ Some z
whole_of (pos n) = refl
whole_of (negsuc n) = refl

in_grid : (z : ℤ) → IsCoordinate z → IsTrue (is_coordinate z)
in_grid z h = grind (arith, ints, h.0, h.1)

coordinate_of : (z : ℤ) → IsCoordinate z → ReadsAsCoordinate (number_data z) z
coordinate_of z h = (whole_of z, in_grid z h)

elements_again : (x y : ℤ) (z : Option ℤ) → IsInGrid (record { x = x; y = y; z = z }) → ArePosition (position_elements (record { x = x; y = y; z = z })) (record { x = x; y = y; z = z })
elements_again x y None h = (coordinate_of x h.0, coordinate_of y h.1, refl)
elements_again x y (Some z) h = (coordinate_of x h.0, coordinate_of y h.1, (z, coordinate_of z h.2, refl))

-- an array that is written for a list
array_again : {A : Type 0} (R : List Data → A → Type 0) (ds : List Data) (a : A) → R ds a → IsArray R (array (items_of ds)) a
array_again R ds a h = rw list_of-items_of h

position_again : (p : PositionValue) → IsInGrid p → IsArray ArePosition (position_data p) p
unfolding position_data
position_again p h = array_again ArePosition (position_elements p) p (elements_again p.x p.y p.z h)

each_again : {A : Type 0} (f : A → Data) (P : A → Type 0) (R : Data → A → Type 0) → ((a : A) → P a → R (f a) a) → (xs : List A) → All P xs → AreEach R (map f xs) xs
each_again f P R again [] h = tt
each_again f P R again (a ∷ xs) h = (again a (All-head P a xs h), each_again f P R again xs (All-tail P a xs h))

line_elements : (ps : List PositionValue) → IsLine ps → AreLine (map position_data ps) ps
line_elements ps h = (each_again position_data IsInGrid (IsArray ArePosition) position_again ps h.0, h.1)

ring_elements : (ps : List PositionValue) → IsRing ps → AreRing (map position_data ps) ps
ring_elements ps h = (each_again position_data IsInGrid (IsArray ArePosition) position_again ps h.0, h.1, h.2)

line_again : (ps : List PositionValue) → IsLine ps → IsArray AreLine (line_data ps) ps
line_again ps h = array_again AreLine (map position_data ps) ps (line_elements ps h)

ring_again : (ps : List PositionValue) → IsRing ps → IsArray AreRing (line_data ps) ps
ring_again ps h = array_again AreRing (map position_data ps) ps (ring_elements ps h)

-- rings that run right are left as they are
holes_kept : (rs : List (List PositionValue)) → IsTrue (list_all (is_right true) rs) → rs ≡ map (turned true) rs
holes_kept [] h = refl
holes_kept (r ∷ rs) h =
    let p = both (is_right true r) (list_all (is_right true) rs) h in
    ap (λ (w : List PositionValue). w ∷ rs) (sym (turned_kept true r p.0)) ∙ ap (λ (w : List (List PositionValue)). turned true r ∷ w) (holes_kept rs p.1)

rings_kept : (rs : List (List PositionValue)) → IsTrue (is_oriented_polygon rs) → rs ≡ oriented rs
rings_kept [] h = refl
rings_kept (r ∷ rs) h =
    let p = both (is_right false r) (list_all (is_right true) rs) h in
    ap (λ (w : List PositionValue). w ∷ rs) (sym (turned_kept false r p.0)) ∙ ap (λ (w : List (List PositionValue)). turned false r ∷ w) (holes_kept rs p.1)

polygon_elements : (rs : List (List PositionValue)) → IsPolygon rs → IsTrue (is_oriented_polygon rs) → ArePolygon (map line_data rs) rs
polygon_elements rs h k = (rs, each_again line_data IsRing (IsArray AreRing) ring_again rs h.0, h.1, rings_kept rs k)

polygon_again : (rs : List (List PositionValue)) → IsPolygon rs → IsTrue (is_oriented_polygon rs) → IsArray ArePolygon (polygon_data rs) rs
polygon_again rs h k = array_again ArePolygon (map line_data rs) rs (polygon_elements rs h k)

polygons_again : (ps : List (List (List PositionValue))) → All IsPolygon ps → IsTrue (list_all is_oriented_polygon ps) → AreEach (IsArray ArePolygon) (map polygon_data ps) ps
polygons_again [] h k = tt
polygons_again (p ∷ ps) h k =
    let b = both (is_oriented_polygon p) (list_all is_oriented_polygon ps) k in
    (polygon_again p (All-head IsPolygon p ps h) b.0, polygons_again ps (All-tail IsPolygon p ps h) b.1)

abbrev kind_of : SimpleValue → SimpleKind
kind_of (values.point p) = kinds.Point
kind_of (values.multi_point ps) = kinds.MultiPoint
kind_of (values.line_string ps) = kinds.LineString
kind_of (values.multi_line_string ls) = kinds.MultiLineString
kind_of (values.polygon rs) = kinds.Polygon
kind_of (values.multi_polygon ps) = kinds.MultiPolygon

coordinates_again : (s : SimpleValue) → IsSimple s → IsTrue (is_oriented_simple s) → AreSimple (kind_of s) (coordinates_of s) s
coordinates_again (values.point p) h k = elements_again p.x p.y p.z h
coordinates_again (values.multi_point ps) h k = each_again position_data IsInGrid (IsArray ArePosition) position_again ps h.0
coordinates_again (values.line_string ps) h k = line_elements ps h
coordinates_again (values.multi_line_string ls) h k = each_again line_data IsLine (IsArray AreLine) line_again ls h.0
coordinates_again (values.polygon rs) h k = polygon_elements rs h k
coordinates_again (values.multi_polygon ps) h k = polygons_again ps h.0 k

some_elements : (s : SimpleValue) → IsSimple s → 1 ≤ length (coordinates_of s)
some_elements (values.point p) h = omega arith
some_elements (values.multi_point ps) h = rw length-map h.1
some_elements (values.line_string ps) h = rw length-map (omega (arith, h.1))
some_elements (values.multi_line_string ls) h = rw length-map h.1
some_elements (values.polygon rs) h = rw length-map h.1
some_elements (values.multi_polygon ps) h = rw length-map h.1

if_any : (k : SimpleKind) (ds : List Data) (s : SimpleValue) → 1 ≤ length ds → AreSimple k ds s → AreCoordinates k ds (Some s)
if_any k [] s some h = absurd (omega arith)
if_any k (d ∷ ds) s some h = (s, h, refl)

kind_again : (s : SimpleValue) → kind_at (simple_data s) ≡ Some (Simple (kind_of s))
kind_again (values.point p) = refl
kind_again (values.multi_point ps) = refl
kind_again (values.line_string ps) = refl
kind_again (values.multi_line_string ls) = refl
kind_again (values.polygon rs) = refl
kind_again (values.multi_polygon ps) = refl

found_again : (ds : List Data) → option_map list_of (Some (items_of ds)) ≡ Some ds
found_again ds = ap Some (list_of-items_of ds)

simple_again : (s : SimpleValue) → IsSimple s → IsTrue (is_oriented_simple s) → ReadsAsSimple (kind_of s) (simple_data s) (Some s)
simple_again s h k = (coordinates_of s, found_again (coordinates_of s), if_any (kind_of s) (coordinates_of s) s (some_elements s h) (coordinates_again s h k))

members_again : (ss : List SimpleValue) → All IsSimple ss → IsTrue (list_all is_oriented_simple ss) → AreEach ReadsAsMember (map simple_data ss) (map Some ss)
members_again [] h k = tt
members_again (s ∷ ss) h k =
    let p = both (is_oriented_simple s) (list_all is_oriented_simple ss) k in
    (inr (kind_of s, kind_again s, simple_again s (All-head IsSimple s ss h) p.0), members_again ss (All-tail IsSimple s ss h) p.1)

somes_again : (ss : List SimpleValue) → somes (map Some ss) ≡ ss
somes_again [] = refl
somes_again (s ∷ ss) = ap (λ (w : List SimpleValue). s ∷ w) (somes_again ss)

collection_again : (ss : List SimpleValue) → 1 ≤ length ss → Some (values.collection ss) ≡ collection_of ss
collection_again [] some = absurd (omega arith)
collection_again (s ∷ ss) some = refl

pub geometry_again : (o : Option GeometryValue) → IsGeometryIf o → IsTrue (is_oriented_if o) → ReadsAsGeometry (geometry_member o) o
geometry_again None h k = inl (refl, refl)
geometry_again (Some (values.simple s)) h k = inr (inl (kind_of s, kind_again s, (Some s, simple_again s h k, refl)))
geometry_again (Some (values.collection ss)) h k =
    inr (inr (refl, (map simple_data ss, found_again (map simple_data ss), (map Some ss, members_again ss h.0 k, collection_again ss h.1 ∙ ap collection_of (sym (somes_again ss))))))

-- ---- no float, and few levels

no_float_number : (z : ℤ) → has_float (number_data z) ≡ false
no_float_number (pos n) = refl
no_float_number (negsuc n) = refl

no_float_elements : (x y : ℤ) (z : Option ℤ) → items_have_float (items_of (position_elements (record { x = x; y = y; z = z }))) ≡ false
no_float_elements x y None = rw (no_float_number x, no_float_number y) refl
no_float_elements x y (Some z) = rw (no_float_number x, no_float_number y, no_float_number z) refl

no_float_position : (p : PositionValue) → has_float (position_data p) ≡ false
unfolding position_data
no_float_position p = no_float_elements p.x p.y p.z

no_float_each : {A : Type 0} (f : A → Data) → ((a : A) → has_float (f a) ≡ false) → (xs : List A) → items_have_float (items_of (map f xs)) ≡ false
no_float_each f none [] = refl
no_float_each f none (a ∷ xs) = rw (none a, no_float_each f none xs) refl

no_float_line : (ps : List PositionValue) → has_float (line_data ps) ≡ false
no_float_line ps = no_float_each position_data no_float_position ps

no_float_polygon : (rs : List (List PositionValue)) → has_float (polygon_data rs) ≡ false
no_float_polygon rs = no_float_each line_data no_float_line rs

no_float_coordinates : (s : SimpleValue) → items_have_float (items_of (coordinates_of s)) ≡ false
no_float_coordinates (values.point p) = no_float_elements p.x p.y p.z
no_float_coordinates (values.multi_point ps) = no_float_each position_data no_float_position ps
no_float_coordinates (values.line_string ps) = no_float_each position_data no_float_position ps
no_float_coordinates (values.multi_line_string ls) = no_float_each line_data no_float_line ls
no_float_coordinates (values.polygon rs) = no_float_each line_data no_float_line rs
no_float_coordinates (values.multi_polygon ps) = no_float_each polygon_data no_float_polygon ps

no_float_simple : (s : SimpleValue) → has_float (simple_data s) ≡ false
no_float_simple s = rw (no_float_coordinates s) refl

no_float_geometry : (o : Option GeometryValue) → has_float (geometry_member o) ≡ false
no_float_geometry None = refl
no_float_geometry (Some (values.simple s)) = no_float_simple s
no_float_geometry (Some (values.collection ss)) = rw (no_float_each simple_data no_float_simple ss) refl

-- what is written for a feature has whole numbers alone
pub no_float_feature : (f : FeatureValue) → IsFeature f → has_float (feature_data f) ≡ false
no_float_feature f h = rw (no_float_geometry f.geometry, h.whole) refl

depth_elements : (x y : ℤ) (z : Option ℤ) → items_depth (items_of (position_elements (record { x = x; y = y; z = z }))) ≤ 0
depth_elements x y None = omega arith
depth_elements x y (Some z) = omega arith

depth_position : (p : PositionValue) → depth (position_data p) ≤ 1
unfolding position_data
depth_position p = let k = depth_elements p.x p.y p.z in omega (arith, k)

depth_each : {A : Type 0} (f : A → Data) (n : ℕ) → ((a : A) → depth (f a) ≤ n) → (xs : List A) → items_depth (items_of (map f xs)) ≤ n
depth_each f n low [] = omega arith
depth_each f n low (a ∷ xs) = let k = low a in let more = depth_each f n low xs in omega (arith, k, more)

depth_line : (ps : List PositionValue) → depth (line_data ps) ≤ 2
depth_line ps = let k = depth_each position_data 1 depth_position ps in omega (arith, k)

depth_polygon : (rs : List (List PositionValue)) → depth (polygon_data rs) ≤ 3
depth_polygon rs = let k = depth_each line_data 2 depth_line rs in omega (arith, k)

depth_coordinates : (s : SimpleValue) → items_depth (items_of (coordinates_of s)) ≤ 3
depth_coordinates (values.point p) = let k = depth_elements p.x p.y p.z in omega (arith, k)
depth_coordinates (values.multi_point ps) = let k = depth_each position_data 1 depth_position ps in omega (arith, k)
depth_coordinates (values.line_string ps) = let k = depth_each position_data 1 depth_position ps in omega (arith, k)
depth_coordinates (values.multi_line_string ls) = let k = depth_each line_data 2 depth_line ls in omega (arith, k)
depth_coordinates (values.polygon rs) = let k = depth_each line_data 2 depth_line rs in omega (arith, k)
depth_coordinates (values.multi_polygon ps) = depth_each polygon_data 3 depth_polygon ps

depth_simple : (s : SimpleValue) → depth (simple_data s) ≤ 5
depth_simple s = let k = depth_coordinates s in omega (arith, k)

depth_geometry : (o : Option GeometryValue) → depth (geometry_member o) ≤ 7
depth_geometry None = omega arith
depth_geometry (Some (values.simple s)) = let k = depth_simple s in omega (arith, k)
depth_geometry (Some (values.collection ss)) = let k = depth_each simple_data 5 depth_simple ss in omega (arith, k)

-- what is written for a feature has at most 64 levels
pub depth_feature : (f : FeatureValue) → IsFeature f → depth (feature_data f) ≤ 64
depth_feature f h = let k = depth_geometry f.geometry in let flat = h.flat in omega (arith, k, flat)

-- ---- features

-- what is written contains the id, so that no place is used as id
pub feature_again_at : (place : Option ℕ) (f : FeatureValue) → IsFeature f → ReadsAt place None (feature_data f) (untimed f)
feature_again_at place f h = record {
  typed = refl;
  flat = depth_feature f h;
  named = (h.named, refl);
  placed = geometry_again f.geometry h.made h.oriented;
  few = h.few;
  reported = refl;
  kept = h.kept;
  whole = h.whole;
  timed = refl;
}

pub feature_again : (f : FeatureValue) → IsFeature f → ReadsAs None (feature_data f) (untimed f)
feature_again f h = feature_again_at None f h
