-- What is written for a feature is kept exactly by its text.
use Rattle.std.proofs.Common.{◌≡◌, ℕ, ◌^◌, ◌<◌, ℤ, pos, negsuc, true, ◌&&◌, IsTrue, All, List, [], ◌∷◌, map, Option, None, Some, refl, arith, codes}
use Rattle.std.specs.List.{list_all}
use Rattle.std.specs.Str.{is_utf8}
use Rattle.std.specs.Prelude.{nat_lt}
use Rattle.std.proofs.lemmas.Bool.{lt-ltb, ltb-true}
use Rattle.std.proofs.lemmas.List.Elements.{All-nil, All-cons, All-head, All-tail}
use Rattle.std.proofs.lemmas.Int.{ints}
use Rattle.std.proofs.lemmas.Str.{is_utf8-from_IsUtf8, IsUtf8-from_ascii}
use Rattle.std.proofs.lemmas.Str.Ascii.{IsAscii-from_all}
use Rattle.serde_json.specs.Data.{Data, string, object, member, no_members}
use Rattle.serde_json.specs.View.{items_of}
use Rattle.streetmap_grid.specs.Range.{IsCoordinate}
use Rattle.streetmap_grid.specs.Values as values
use Rattle.streetmap_grid.specs.Values.{PositionValue, SimpleValue, GeometryValue}
use Rattle.streetmap_grid.specs.WellFormed.{IsInGrid, IsLine, IsRing, IsPolygon, IsSimple}
use Rattle.streetmap_geojson.specs.FeatureValue.{FeatureValue}
use Rattle.streetmap_geojson.specs.FeatureInvariant.{IsGeometryIf, IsFeature}
use Rattle.streetmap_json.specs.ExactData.{is_exact, are_exact}
use Rattle.streetmap_feature_text.specs.Written.{number_data, position_elements, position_data, line_data, polygon_data, coordinates_of, name_of, typed_data, simple_data, geometry_member, feature_data, collection_data}
use Rattle.streetmap_feature_text.proofs.Again.{both}

exact_number : (z : ℤ) → IsCoordinate z → IsTrue (is_exact (number_data z))
exact_number (pos n) h = let low : n < 2 ^ 64 = omega (arith, ints, h.1) in lt-ltb n (2 ^ 64) low
exact_number (negsuc n) h = let low : n < 2 ^ 63 = omega (arith, ints, h.0) in lt-ltb n (2 ^ 63) low

exact_elements : (x y : ℤ) (z : Option ℤ) → IsInGrid (record { x = x; y = y; z = z }) → IsTrue (are_exact (items_of (position_elements (record { x = x; y = y; z = z }))))
exact_elements x y None h = rw (exact_number x h.0, exact_number y h.1) refl
exact_elements x y (Some z) h = rw (exact_number x h.0, exact_number y h.1, exact_number z h.2) refl

exact_position : (p : PositionValue) → IsInGrid p → IsTrue (is_exact (position_data p))
unfolding position_data
exact_position p h = exact_elements p.x p.y p.z h

pub exact_each : {A : Type 0} (f : A → Data) (P : A → Type 0) → ((a : A) → P a → IsTrue (is_exact (f a))) → (xs : List A) → All P xs → IsTrue (are_exact (items_of (map f xs)))
exact_each f P exact [] h = refl
exact_each f P exact (a ∷ xs) h = rw (exact a (All-head P a xs h), exact_each f P exact xs (All-tail P a xs h)) refl

exact_line : (ps : List PositionValue) → All IsInGrid ps → IsTrue (is_exact (line_data ps))
exact_line ps h = exact_each position_data IsInGrid exact_position ps h

exact_polygon : (rs : List (List PositionValue)) → IsPolygon rs → IsTrue (is_exact (polygon_data rs))
exact_polygon rs h = exact_each line_data IsRing (λ r k. exact_line r k.0) rs h.0

exact_coordinates : (s : SimpleValue) → IsSimple s → IsTrue (are_exact (items_of (coordinates_of s)))
exact_coordinates (values.point p) h = exact_elements p.x p.y p.z h
exact_coordinates (values.multi_point ps) h = exact_each position_data IsInGrid exact_position ps h.0
exact_coordinates (values.line_string ps) h = exact_each position_data IsInGrid exact_position ps h.0
exact_coordinates (values.multi_line_string ls) h = exact_each line_data IsLine (λ l k. exact_line l k.0) ls h.0
exact_coordinates (values.polygon rs) h = exact_each line_data IsRing (λ r k. exact_line r k.0) rs h.0
exact_coordinates (values.multi_polygon ps) h = exact_each polygon_data IsPolygon exact_polygon ps h.0

pub ascii_all : (bs : List ℕ) → list_all (λ b. nat_lt b 128) bs ≡ true → All (λ b. b < 128) bs
ascii_all [] h = All-nil (λ b. b < 128)
ascii_all (b ∷ bs) h =
    let p = both (nat_lt b 128) (list_all (λ b. nat_lt b 128) bs) h in
    All-cons (λ b. b < 128) b bs (ltb-true b 128 p.0) (ascii_all bs p.1)

-- a text of ASCII bytes is UTF-8
pub ascii_utf8 : (bs : List ℕ) → list_all (λ b. nat_lt b 128) bs ≡ true → is_utf8 bs ≡ true
ascii_utf8 bs h = is_utf8-from_IsUtf8 bs (IsUtf8-from_ascii bs (IsAscii-from_all bs (ascii_all bs h)))

exact_name : (s : SimpleValue) → IsTrue (is_utf8 (name_of s))
exact_name (values.point p) = ascii_utf8 (codes "Point") refl
exact_name (values.multi_point ps) = ascii_utf8 (codes "MultiPoint") refl
exact_name (values.line_string ps) = ascii_utf8 (codes "LineString") refl
exact_name (values.multi_line_string ls) = ascii_utf8 (codes "MultiLineString") refl
exact_name (values.polygon rs) = ascii_utf8 (codes "Polygon") refl
exact_name (values.multi_polygon ps) = ascii_utf8 (codes "MultiPolygon") refl

exact_typed : (name : List ℕ) (ds : List Data) → IsTrue (is_utf8 name) → IsTrue (are_exact (items_of ds)) → IsTrue (is_exact (typed_data name ds))
exact_typed name ds h k = rw (h, k, ascii_utf8 (codes "coordinates") refl, ascii_utf8 (codes "type") refl) refl

exact_simple : (s : SimpleValue) → IsSimple s → IsTrue (is_exact (simple_data s))
exact_simple s h = exact_typed (name_of s) (coordinates_of s) (exact_name s) (exact_coordinates s h)

exact_geometry : (o : Option GeometryValue) → IsGeometryIf o → IsTrue (is_exact (geometry_member o))
exact_geometry None h = refl
exact_geometry (Some (values.simple s)) h = exact_simple s h
exact_geometry (Some (values.collection ss)) h =
    rw (exact_each simple_data IsSimple exact_simple ss h.0, ascii_utf8 (codes "geometries") refl, ascii_utf8 (codes "type") refl, ascii_utf8 (codes "GeometryCollection") refl) refl

exact_members : (g properties : Data) (id : List ℕ) → IsTrue (is_exact g) → IsTrue (is_utf8 id) → IsTrue (is_exact properties)
    → IsTrue (is_exact (object (member (codes "geometry") g (member (codes "id") (string id) (member (codes "properties") properties (member (codes "type") (string (codes "Feature")) no_members))))))
exact_members g properties id h k l =
    rw (h, k, l, ascii_utf8 (codes "geometry") refl, ascii_utf8 (codes "id") refl, ascii_utf8 (codes "properties") refl, ascii_utf8 (codes "type") refl, ascii_utf8 (codes "Feature") refl) refl

-- what is written for a feature has whole numbers, texts in UTF-8 and members in order
pub exact_feature : (f : FeatureValue) → IsFeature f → IsTrue (is_exact (feature_data f))
exact_feature f h = exact_members (geometry_member f.geometry) f.properties f.id (exact_geometry f.geometry h.made) h.text h.exact

pub exact_collection : (fs : List FeatureValue) → IsTrue (are_exact (items_of (map feature_data fs))) → IsTrue (is_exact (collection_data fs))
exact_collection fs h = rw (h, ascii_utf8 (codes "features") refl, ascii_utf8 (codes "type") refl, ascii_utf8 (codes "FeatureCollection") refl) refl
