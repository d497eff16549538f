-- What a geometry reads as, or its first fault, in the reading order. RFC 7946 3.1.
-- A number beside a value counts the feature's positions: n before it is read, and with it those of
-- the value.
use Rattle.std.specs.Prelude.{ℕ, ◌+◌, ℤ, List, [], ◌∷◌, length, codes, Option, None, Some, is_some}
use Rattle.std.specs.Prelude.{option_map, option_and_then, ok_or, Result, Ok, Err, nat_lt}
use Rattle.std.specs.Prelude.{if◌then◌else◌}
use Rattle.serde_json.specs.Data.{Data, number, Items, no_items, item}
use Rattle.serde_json.specs.Find.{as_integer, as_null, as_str, as_array, get}
use Rattle.streetmap_grid.specs.Values as values
use Rattle.streetmap_grid.specs.Values.{PositionValue, SimpleValue, GeometryValue}
use Rattle.streetmap_grid.specs.Range.{is_coordinate}
use Rattle.streetmap_grid.specs.Ring.{is_closed, oriented}
use Rattle.streetmap_geojson.specs.declared.fault.Fault.{Fault}
use Rattle.streetmap_geojson.specs.declared.fault.Fault.TheVariants.{BadGeometry, NestedCollection}
use Rattle.streetmap_geojson.specs.declared.fault.Fault.TheVariants.{BadPosition, Fraction}
use Rattle.streetmap_geojson.specs.declared.fault.Fault.TheVariants.{OutOfGrid, TooManyPositions}
use Rattle.streetmap_geojson.specs.declared.fault.Fault.TheVariants.{ShortLine, ShortRing}
use Rattle.streetmap_geojson.specs.declared.fault.Fault.TheVariants.{OpenRing}
use Rattle.streetmap_geojson.specs.declared.kind.Kind.{Kind}
use Rattle.streetmap_geojson.specs.declared.kind.Kind.TheVariants.{Simple, Collection}
use Rattle.streetmap_geojson.specs.declared.kind.SimpleKind.{SimpleKind}
use Rattle.streetmap_geojson.specs.declared.kind.SimpleKind.TheVariants as kinds
use Rattle.streetmap_geojson.specs.Kind.{kind}
use Rattle.streetmap_geojson.specs.Fault.{◌>>=◌}

-- what is read after n positions, and the number of positions up to there
abbrev pub Read : Type 0 → Type 0
Read A = Result (A × ℕ) Fault

abbrev pub list_of : Items → List Data
list_of no_items = []
list_of (item d ds) = d ∷ list_of ds

-- what was read, without the number of positions
abbrev pub value_of : {A : Type 0} → Read A → Result A Fault
value_of read = read >>= λ x. Ok x.0

-- what was read, under g
abbrev pub under : {A B : Type 0} → (A → B) → Read A → Read B
under g read = read >>= λ x. Ok (g x.0, x.1)

-- the elements of an array
abbrev pub elements_of : Fault → Data → Result (List Data) Fault
elements_of fault d = ok_or (option_map list_of (as_array d)) fault

-- an array, of which f reads the elements
unfoldable pub inside : {A : Type 0} → Fault → (List Data → ℕ → Read A) → Data → ℕ → Read A
inside fault f d n = do
  ds ← elements_of fault d
  f ds n

-- each element from left to right
unfoldable pub each : {A : Type 0} → (Data → ℕ → Read A) → List Data → ℕ → Read (List A)
each f [] n = Ok ([], n)
each f (d ∷ ds) n = do
  x ← f d n
  xs ← each f ds x.1
  Ok (x.0 ∷ xs.0, xs.1)

-- ---- positions

-- a whole number of the grid
abbrev pub whole : Option ℤ → Result ℤ Fault
whole None = Err Fraction
whole (Some z) = if is_coordinate z then Ok z else Err OutOfGrid

unfoldable pub coordinate : Data → Result ℤ Fault
coordinate (number n) = whole (as_integer n)
coordinate _ = Err BadPosition

-- RFC 7946 3.1.1: two or three elements, easting, northing and height, from left to right
abbrev pub position_of : List Data → Result PositionValue Fault
position_of (a ∷ b ∷ []) = do
  x ← coordinate a
  y ← coordinate b
  Ok (record { x = x; y = y; z = None })
position_of (a ∷ b ∷ c ∷ []) = do
  x ← coordinate a
  y ← coordinate b
  z ← coordinate c
  Ok (record { x = x; y = y; z = Some z })
position_of _ = Err BadPosition

abbrev pub max_positions : ℕ
max_positions = 100000

-- an array in the place of a position: the 100,001st is refused
unfoldable pub position : List Data → ℕ → Read PositionValue
position ds n = if nat_lt n max_positions then (do
  p ← position_of ds
  Ok (p, n + 1)) else Err TooManyPositions

abbrev pub positions : List Data → ℕ → Read (List PositionValue)
positions ds n = each (inside BadPosition position) ds n

-- ---- lines, rings, polygons

-- RFC 7946 3.1.4: a line is its positions, then at least two of them
unfoldable pub line : List Data → ℕ → Read (List PositionValue)
line ds n = do
  ps ← positions ds n
  if nat_lt (length ps.0) 2 then Err ShortLine else Ok ps

-- RFC 7946 3.1.6: a linear ring is its positions, then at least four of them, then the first and
-- the last identical
abbrev pub ends_of : List PositionValue → Result (List PositionValue) Fault
ends_of ps = if nat_lt (length ps) 4 then Err ShortRing
    else (if is_closed ps then Ok ps else Err OpenRing)

unfoldable pub ring : List Data → ℕ → Read (List PositionValue)
ring ds n = do
  ps ← positions ds n
  rs ← ends_of ps.0
  Ok (rs, ps.1)

abbrev pub lines : List Data → ℕ → Read (List (List PositionValue))
lines ds n = each (inside BadGeometry line) ds n

abbrev pub rings : List Data → ℕ → Read (List (List PositionValue))
rings ds n = each (inside BadGeometry ring) ds n

-- the rings, at least one, in their directions
abbrev pub some_rings : List (List PositionValue) → Result (List (List PositionValue)) Fault
some_rings [] = Err BadGeometry
some_rings (r ∷ rs) = Ok (oriented (r ∷ rs))

-- RFC 7946 3.1.6: the first ring bounds the polygon, the others its holes
unfoldable pub polygon : List Data → ℕ → Read (List (List PositionValue))
polygon ds n = do
  rs ← rings ds n
  ps ← some_rings rs.0
  Ok (ps, rs.1)

abbrev pub polygons : List Data → ℕ → Read (List (List (List PositionValue)))
polygons ds n = each (inside BadGeometry polygon) ds n

-- ---- geometries

-- the elements of `coordinates` as a kind reads them
unfoldable pub coordinates_as : SimpleKind → List Data → ℕ → Read SimpleValue
coordinates_as kinds.Point ds n = under values.point (position ds n)
coordinates_as kinds.MultiPoint ds n = under values.multi_point (positions ds n)
coordinates_as kinds.LineString ds n = under values.line_string (line ds n)
coordinates_as kinds.MultiLineString ds n = under values.multi_line_string (lines ds n)
coordinates_as kinds.Polygon ds n = under values.polygon (polygon ds n)
coordinates_as kinds.MultiPolygon ds n = under values.multi_polygon (polygons ds n)

-- RFC 7946 3.1: an empty array of coordinates is a null geometry
abbrev pub unless_empty : {A : Type 0} → (List Data → ℕ → Read A) → List Data → ℕ → Read (Option A)
unless_empty f [] n = Ok (None, n)
unless_empty f (d ∷ ds) n = under Some (f (d ∷ ds) n)

-- the member of that name, which must be an array
abbrev pub array_at : List ℕ → Data → Result (List Data) Fault
array_at name d = ok_or (option_map list_of (option_and_then as_array (get name d))) BadGeometry

-- the kind that an object names
abbrev pub kind_at : Data → Option Kind
kind_at d = option_and_then kind (option_and_then as_str (get (codes "type") d))

-- the geometry of a kind that has coordinates
unfoldable pub simple_as : SimpleKind → Data → ℕ → Read (Option SimpleValue)
simple_as k d n = do
  ds ← array_at (codes "coordinates") d
  unless_empty (coordinates_as k) ds n

-- a GeometryCollection within one is refused, first if it has no array of members
abbrev pub nested : Data → ℕ → Read (Option SimpleValue)
nested d n = do
  ds ← array_at (codes "geometries") d
  Err NestedCollection

-- a member of `geometries`
abbrev pub member_as : Option Kind → Data → ℕ → Read (Option SimpleValue)
member_as None d n = Err BadGeometry
member_as (Some Collection) d n = nested d n
member_as (Some (Simple k)) d n = simple_as k d n

unfoldable pub member_of_collection : Data → ℕ → Read (Option SimpleValue)
member_of_collection d n = if is_some (as_null d) then Ok (None, n) else member_as (kind_at d) d n

-- those that exist
abbrev pub somes : {A : Type 0} → List (Option A) → List A
somes [] = []
somes (None ∷ xs) = somes xs
somes (Some x ∷ xs) = x ∷ somes xs

-- a collection without members is a null geometry
abbrev pub collection_of : List SimpleValue → Option GeometryValue
collection_of [] = None
collection_of (s ∷ ss) = Some (values.collection (s ∷ ss))

-- the members of `geometries`, without those that read as null
abbrev pub members : List Data → ℕ → Read (List SimpleValue)
members ds n = under somes (each member_of_collection ds n)

-- RFC 7946 3.1.8
unfoldable pub collection : Data → ℕ → Read (Option GeometryValue)
collection d n = do
  ds ← array_at (codes "geometries") d
  under collection_of (members ds n)

abbrev pub single_of : Option SimpleValue → Option GeometryValue
single_of o = option_map values.simple o

abbrev pub geometry_as : Option Kind → Data → ℕ → Read (Option GeometryValue)
geometry_as None d n = Err BadGeometry
geometry_as (Some Collection) d n = collection d n
geometry_as (Some (Simple k)) d n = under single_of (simple_as k d n)

-- the value of the member `geometry`
unfoldable pub geometry : Data → ℕ → Read (Option GeometryValue)
geometry d n = if is_some (as_null d) then Ok (None, n) else geometry_as (kind_at d) d n
