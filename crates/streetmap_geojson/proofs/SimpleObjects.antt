-- The object of a type that has coordinates and its `coordinates`.
use Rattle.std.proofs.Common.{◌≡◌, ℕ, refl}
use Rattle.serde_json.specs.Data.{Data}
use Rattle.serde_json.proofs.OnLiterals.{serde_json_on_literals}
use Rattle.streetmap_geojson.specs.declared.fault.Fault.TheVariants.{BadGeometry}
use Rattle.streetmap_geojson.specs.declared.kind.SimpleKind.{SimpleKind}
use Rattle.streetmap_geojson.specs.declared.kind.SimpleKind.TheVariants as kinds
use Rattle.streetmap_geojson.specs.FeatureMembers.{simple_object}
use Rattle.streetmap_geojson.specs.ParsedGeometries.{under, single_of, inside, unless_empty, coordinates_as, simple_as, geometry}

-- it reads as its coordinates
pub simple_is : (k : SimpleKind) (d : Data) (n : ℕ) → geometry (simple_object k d) n ≡ under single_of (inside BadGeometry (unless_empty (coordinates_as k)) d n)
unfolding serde_json_on_literals geometry simple_as inside
simple_is kinds.Point d n = refl
simple_is kinds.MultiPoint d n = refl
simple_is kinds.LineString d n = refl
simple_is kinds.MultiLineString d n = refl
simple_is kinds.Polygon d n = refl
simple_is kinds.MultiPolygon d n = refl
