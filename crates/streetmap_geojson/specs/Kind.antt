-- The names of the kinds. RFC 7946 1.4: the six geometry types that have coordinates, and
-- GeometryCollection.
use Rattle.std.specs.Prelude.{ℕ, List, codes, Option, None, Some, if◌then◌else◌, bytes_eq}
use Rattle.streetmap_geojson.specs.declared.kind.Kind.{Kind}
use Rattle.streetmap_geojson.specs.declared.kind.Kind.TheVariants.{Simple, Collection}
use Rattle.streetmap_geojson.specs.declared.kind.SimpleKind.{SimpleKind}
use Rattle.streetmap_geojson.specs.declared.kind.SimpleKind.TheVariants as kinds

abbrev pub kind : List ℕ → Option Kind
kind s =
    if bytes_eq s (codes "Point") then Some (Simple kinds.Point) else
    (if bytes_eq s (codes "MultiPoint") then Some (Simple kinds.MultiPoint) else
    (if bytes_eq s (codes "LineString") then Some (Simple kinds.LineString) else
    (if bytes_eq s (codes "MultiLineString") then Some (Simple kinds.MultiLineString) else
    (if bytes_eq s (codes "Polygon") then Some (Simple kinds.Polygon) else
    (if bytes_eq s (codes "MultiPolygon") then Some (Simple kinds.MultiPolygon) else
    (if bytes_eq s (codes "GeometryCollection") then Some Collection else None))))))

-- the name of a kind that has coordinates
abbrev pub kind_name : SimpleKind → List ℕ
kind_name kinds.Point = codes "Point"
kind_name kinds.MultiPoint = codes "MultiPoint"
kind_name kinds.LineString = codes "LineString"
kind_name kinds.MultiLineString = codes "MultiLineString"
kind_name kinds.Polygon = codes "Polygon"
kind_name kinds.MultiPolygon = codes "MultiPolygon"
