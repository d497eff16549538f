-- "A value reads as a geometry": by cases over RFC 7946 3.1, of whole values, with no order and no
-- count.
use Rattle.std.specs.Prelude.{◌≡◌, ◌+◌, ◌≤◌, ◌⊎◌, ℕ, ℤ, List, [], ◌∷◌, length, codes, Option, None}
use Rattle.std.specs.Prelude.{Some, is_some, option_map, option_and_then, IsTrue}
use Rattle.serde_json.specs.Data.{Data, number, array}
use Rattle.serde_json.specs.Find.{as_integer, as_null, as_array, get}
use Rattle.streetmap_grid.specs.Values as values
use Rattle.streetmap_grid.specs.Values.{PositionValue, SimpleValue, GeometryValue}
use Rattle.streetmap_grid.specs.Range.{is_coordinate}
use Rattle.streetmap_grid.specs.Ring.{is_closed, oriented}
use Rattle.streetmap_geojson.specs.declared.kind.Kind.TheVariants.{Simple, Collection}
use Rattle.streetmap_geojson.specs.declared.kind.SimpleKind.{SimpleKind}
use Rattle.streetmap_geojson.specs.declared.kind.SimpleKind.TheVariants as kinds
use Rattle.streetmap_geojson.specs.ParsedGeometries.{list_of, kind_at, somes, collection_of}
use Rattle.streetmap_geojson.specs.ParsedGeometries.{single_of}

-- a whole number of the grid
abbrev pub ReadsAsCoordinate : Data → ℤ → Type 0
ReadsAsCoordinate (number n) z = (as_integer n ≡ Some z) × IsTrue (is_coordinate z)
ReadsAsCoordinate _ z = ⊥

-- RFC 7946 3.1.1: two coordinates, or three
abbrev pub ArePosition : List Data → PositionValue → Type 0
ArePosition (a ∷ b ∷ []) p = ReadsAsCoordinate a p.x × ReadsAsCoordinate b p.y × (p.z ≡ None)
ArePosition (a ∷ b ∷ c ∷ []) p = ReadsAsCoordinate a p.x × ReadsAsCoordinate b p.y
    × ((z : ℤ) × ReadsAsCoordinate c z × (p.z ≡ Some z))
ArePosition _ p = ⊥

-- an array whose elements satisfy R
abbrev pub IsArray : {A : Type 0} → (List Data → A → Type 0) → Data → A → Type 0
IsArray R (array ds) a = R (list_of ds) a
IsArray R _ a = ⊥

-- one by one
abbrev pub AreEach : {A : Type 0} → (Data → A → Type 0) → List Data → List A → Type 0
AreEach R [] [] = Unit {0}
AreEach R (d ∷ ds) (a ∷ xs) = R d a × AreEach R ds xs
AreEach R _ _ = ⊥

abbrev pub ArePositions : List Data → List PositionValue → Type 0
ArePositions ds ps = AreEach (IsArray ArePosition) ds ps

-- RFC 7946 3.1.4: two or more positions
abbrev pub AreLine : List Data → List PositionValue → Type 0
AreLine ds ps = ArePositions ds ps × (2 ≤ length ps)

abbrev pub AreLines : List Data → List (List PositionValue) → Type 0
AreLines ds ls = AreEach (IsArray AreLine) ds ls

-- RFC 7946 3.1.6: four or more positions, the first and the last identical
abbrev pub AreRing : List Data → List PositionValue → Type 0
AreRing ds ps = ArePositions ds ps × (4 ≤ length ps) × IsTrue (is_closed ps)

abbrev pub AreRings : List Data → List (List PositionValue) → Type 0
AreRings ds rs = AreEach (IsArray AreRing) ds rs

-- RFC 7946 3.1.6: one ring or more, each as it is, or reversed if its sign is wrong
abbrev pub ArePolygon : List Data → List (List PositionValue) → Type 0
ArePolygon ds rs = (qs : List (List PositionValue)) × AreRings ds qs × (1 ≤ length qs)
    × (rs ≡ oriented qs)

abbrev pub ArePolygons : List Data → List (List (List PositionValue)) → Type 0
ArePolygons ds ps = AreEach (IsArray ArePolygon) ds ps

-- the elements of `coordinates`, RFC 7946 3.1.2 to 3.1.7
abbrev pub AreSimple : SimpleKind → List Data → SimpleValue → Type 0
AreSimple kinds.Point ds (values.point p) = ArePosition ds p
AreSimple kinds.MultiPoint ds (values.multi_point ps) = ArePositions ds ps
AreSimple kinds.LineString ds (values.line_string ps) = AreLine ds ps
AreSimple kinds.MultiLineString ds (values.multi_line_string ls) = AreLines ds ls
AreSimple kinds.Polygon ds (values.polygon rs) = ArePolygon ds rs
AreSimple kinds.MultiPolygon ds (values.multi_polygon ps) = ArePolygons ds ps
AreSimple _ ds _ = ⊥

-- that, or none of an empty array
abbrev pub AreCoordinates : SimpleKind → List Data → Option SimpleValue → Type 0
AreCoordinates k [] o = o ≡ None
AreCoordinates k (d ∷ ds) o = (s : SimpleValue) × AreSimple k (d ∷ ds) s × (o ≡ Some s)

-- the member of that name is an array of these
abbrev pub IsArrayAt : List ℕ → Data → List Data → Type 0
IsArrayAt name d ds = option_map list_of (option_and_then as_array (get name d)) ≡ Some ds

-- a geometry of that kind, or none
abbrev pub ReadsAsSimple : SimpleKind → Data → Option SimpleValue → Type 0
ReadsAsSimple k d o = (ds : List Data) × IsArrayAt (codes "coordinates") d ds
    × AreCoordinates k ds o

abbrev pub IsNull : Data → Type 0
IsNull d = IsTrue (is_some (as_null d))

-- a member of `geometries`
abbrev pub ReadsAsMember : Data → Option SimpleValue → Type 0
ReadsAsMember d o = (IsNull d × (o ≡ None))
    ⊎ ((k : SimpleKind) × (kind_at d ≡ Some (Simple k)) × ReadsAsSimple k d o)

-- RFC 7946 3.1.8: the members that are not null, or none
abbrev pub ReadsAsCollection : Data → Option GeometryValue → Type 0
ReadsAsCollection d o = (ds : List Data) × IsArrayAt (codes "geometries") d ds
    × ((os : List (Option SimpleValue)) × AreEach ReadsAsMember ds os
    × (o ≡ collection_of (somes os)))

abbrev pub ReadsAsSingle : Data → Option GeometryValue → Type 0
ReadsAsSingle d o = (k : SimpleKind) × (kind_at d ≡ Some (Simple k))
    × ((s : Option SimpleValue) × ReadsAsSimple k d s × (o ≡ single_of s))

-- RFC 7946 3.2: a geometry, or null
abbrev pub ReadsAsGeometry : Data → Option GeometryValue → Type 0
ReadsAsGeometry d o = (IsNull d × (o ≡ None))
    ⊎ (ReadsAsSingle d o ⊎ ((kind_at d ≡ Some Collection) × ReadsAsCollection d o))

-- ---- the number of positions

-- the positions of a list's elements
abbrev pub counts : {A : Type 0} → (A → ℕ) → List A → ℕ
counts count [] = 0
counts count (a ∷ xs) = count a + counts count xs

abbrev pub line_count : List PositionValue → ℕ
line_count ps = counts (λ _. 1) ps

abbrev pub polygon_count : List (List PositionValue) → ℕ
polygon_count rs = counts line_count rs

abbrev pub simple_count : SimpleValue → ℕ
simple_count (values.point p) = 1
simple_count (values.multi_point ps) = line_count ps
simple_count (values.line_string ps) = line_count ps
simple_count (values.multi_line_string ls) = counts line_count ls
simple_count (values.polygon rs) = polygon_count rs
simple_count (values.multi_polygon ps) = counts polygon_count ps

abbrev pub position_count : GeometryValue → ℕ
position_count (values.simple s) = simple_count s
position_count (values.collection ss) = counts simple_count ss

abbrev pub count_if : {A : Type 0} → (A → ℕ) → Option A → ℕ
count_if count None = 0
count_if count (Some a) = count a
