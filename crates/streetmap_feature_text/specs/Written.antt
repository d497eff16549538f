-- What is written for a feature. RFC 7946 3; the members of each object are in byte order of their
-- names.
use Rattle.std.specs.Prelude.{ℤ, ℕ, List, [], ◌∷◌, Option, None, Some, map, codes}
use Rattle.serde_json.specs.Data.{Data, null, number, string, array, object, no_members, member}
use Rattle.serde_json.specs.Find.{of_integer}
use Rattle.serde_json.specs.View.{items_of}
use Rattle.serde_json.specs.Written.{compact_text}
use Rattle.streetmap_grid.specs.Values as values
use Rattle.streetmap_grid.specs.Values.{PositionValue, SimpleValue, GeometryValue}
use Rattle.streetmap_geojson.specs.FeatureValue.{FeatureValue}

-- a whole number
abbrev pub number_data : ℤ → Data
number_data z = number (of_integer z)

abbrev pub height_data : Option ℤ → List Data
height_data None = []
height_data (Some z) = number_data z ∷ []

-- an array of what is written for each
abbrev pub array_of : {A : Type 0} → (A → Data) → List A → Data
array_of f xs = array (items_of (map f xs))

abbrev pub position_elements : PositionValue → List Data
position_elements p = number_data p.x ∷ number_data p.y ∷ height_data p.z

unfoldable pub position_data : PositionValue → Data
position_data p = array (items_of (position_elements p))

abbrev pub line_data : List PositionValue → Data
line_data ps = array_of position_data ps

abbrev pub polygon_data : List (List PositionValue) → Data
polygon_data rs = array_of line_data rs

-- the elements of `coordinates`
abbrev pub coordinates_of : SimpleValue → List Data
coordinates_of (values.point p) = position_elements p
coordinates_of (values.multi_point ps) = map position_data ps
coordinates_of (values.line_string ps) = map position_data ps
coordinates_of (values.multi_line_string ls) = map line_data ls
coordinates_of (values.polygon rs) = map line_data rs
coordinates_of (values.multi_polygon ps) = map polygon_data ps

abbrev pub name_of : SimpleValue → List ℕ
name_of (values.point p) = codes "Point"
name_of (values.multi_point ps) = codes "MultiPoint"
name_of (values.line_string ps) = codes "LineString"
name_of (values.multi_line_string ls) = codes "MultiLineString"
name_of (values.polygon rs) = codes "Polygon"
name_of (values.multi_polygon ps) = codes "MultiPolygon"

abbrev pub typed_data : List ℕ → List Data → Data
typed_data name ds = object (member (codes "coordinates") (array (items_of ds))
    (member (codes "type") (string name) no_members))

abbrev pub simple_data : SimpleValue → Data
simple_data s = typed_data (name_of s) (coordinates_of s)

abbrev pub geometry_data : GeometryValue → Data
geometry_data (values.simple s) = simple_data s
geometry_data (values.collection ss) = object
    (member (codes "geometries") (array_of simple_data ss)
    (member (codes "type") (string (codes "GeometryCollection")) no_members))

abbrev pub geometry_member : Option GeometryValue → Data
geometry_member None = null
geometry_member (Some g) = geometry_data g

abbrev pub feature_data : FeatureValue → Data
feature_data f = object (member (codes "geometry") (geometry_member f.geometry)
    (member (codes "id") (string f.id)
    (member (codes "properties") f.properties
    (member (codes "type") (string (codes "Feature")) no_members))))

-- the array `coordinates`
abbrev pub coordinates_data : SimpleValue → Data
coordinates_data s = array (items_of (coordinates_of s))

-- a height as text, with the comma before it
abbrev pub height_text : Option ℤ → List ℕ
height_text None = []
height_text (Some z) = 44 ∷ compact_text (number_data z)

-- RFC 7946 3.3
abbrev pub collection_data : List FeatureValue → Data
collection_data fs = object (member (codes "features") (array_of feature_data fs)
    (member (codes "type") (string (codes "FeatureCollection")) no_members))
