-- What is read runs in its direction.
use Rattle.std.proofs.Common.{Bool, true, IsTrue, List, [], ◌∷◌, Option, None, Some, refl, sym, subst, inl, inr}
use Rattle.std.specs.List.{list_all}
use Rattle.serde_json.specs.Data.{Data, null, boolean, number, string, array, object}
use Rattle.streetmap_grid.specs.Values as values
use Rattle.streetmap_grid.specs.Values.{PositionValue, SimpleValue, GeometryValue}
use Rattle.streetmap_grid.specs.Ring.{is_oriented_polygon}
use Rattle.streetmap_grid.specs.WellFormed.{is_oriented_simple}
use Rattle.streetmap_grid.proofs.Turning.{oriented_right}
use Rattle.streetmap_geojson.specs.declared.kind.SimpleKind.{SimpleKind}
use Rattle.streetmap_geojson.specs.declared.kind.SimpleKind.TheVariants as kinds
use Rattle.streetmap_geojson.specs.ParsedGeometries.{list_of, somes, collection_of, single_of}
use Rattle.streetmap_geojson.specs.Meaning.{IsArray, AreEach, ArePolygon, AreSimple, AreCoordinates, ReadsAsMember, ReadsAsGeometry}
use Rattle.streetmap_geojson.specs.FeatureInvariant.{is_oriented_if}

polygon_right : (ds : List Data) (rs : List (List PositionValue)) → ArePolygon ds rs → IsTrue (is_oriented_polygon rs)
polygon_right ds rs h = subst (λ (w : List (List PositionValue)). IsTrue (is_oriented_polygon w)) (sym h.3) (oriented_right h.0)

array_right : (d : Data) (rs : List (List PositionValue)) → IsArray ArePolygon d rs → IsTrue (is_oriented_polygon rs)
array_right (array ds) rs h = polygon_right (list_of ds) rs h
array_right null rs h = absurd h
array_right (boolean b) rs h = absurd h
array_right (number n) rs h = absurd h
array_right (string s) rs h = absurd h
array_right (object ms) rs h = absurd h

polygons_right : (ds : List Data) (ps : List (List (List PositionValue))) → AreEach (IsArray ArePolygon) ds ps → IsTrue (list_all is_oriented_polygon ps)
polygons_right [] [] h = refl
polygons_right [] (p ∷ ps) h = absurd h
polygons_right (d ∷ ds) [] h = absurd h
polygons_right (d ∷ ds) (p ∷ ps) h = rw (array_right d p h.0, polygons_right ds ps h.1) refl

simple_right : (k : SimpleKind) (ds : List Data) (s : SimpleValue) → AreSimple k ds s → IsTrue (is_oriented_simple s)
simple_right kinds.Point ds (values.point p) h = refl
simple_right kinds.MultiPoint ds (values.multi_point ps) h = refl
simple_right kinds.LineString ds (values.line_string ps) h = refl
simple_right kinds.MultiLineString ds (values.multi_line_string ls) h = refl
simple_right kinds.Polygon ds (values.polygon rs) h = polygon_right ds rs h
simple_right kinds.MultiPolygon ds (values.multi_polygon ps) h = polygons_right ds ps h
simple_right _ ds _ h = absurd h

abbrev pub is_oriented_simple_if : Option SimpleValue → Bool
is_oriented_simple_if None = true
is_oriented_simple_if (Some s) = is_oriented_simple s

coordinates_right : (k : SimpleKind) (ds : List Data) (o : Option SimpleValue) → AreCoordinates k ds o → IsTrue (is_oriented_simple_if o)
coordinates_right k [] o h = rw h refl
coordinates_right k (d ∷ ds) o h = rw h.2 (simple_right k (d ∷ ds) h.0 h.1)

member_right : (d : Data) (o : Option SimpleValue) → ReadsAsMember d o → IsTrue (is_oriented_simple_if o)
member_right d o (inl h) = rw h.1 refl
member_right d o (inr h) = coordinates_right h.0 h.2.0 o h.2.2

members_right : (ds : List Data) (os : List (Option SimpleValue)) → AreEach ReadsAsMember ds os → IsTrue (list_all is_oriented_simple (somes os))
members_right [] [] h = refl
members_right [] (o ∷ os) h = absurd h
members_right (d ∷ ds) [] h = absurd h
members_right (d ∷ ds) (None ∷ os) h = members_right ds os h.1
members_right (d ∷ ds) (Some s ∷ os) h = rw (member_right d (Some s) h.0, members_right ds os h.1) refl

collection_right : (ss : List SimpleValue) → IsTrue (list_all is_oriented_simple ss) → IsTrue (is_oriented_if (collection_of ss))
collection_right [] h = refl
collection_right (s ∷ ss) h = h

single_right : (o : Option SimpleValue) → IsTrue (is_oriented_simple_if o) → IsTrue (is_oriented_if (single_of o))
single_right None h = refl
single_right (Some s) h = h

pub geometry_oriented : (d : Data) (o : Option GeometryValue) → ReadsAsGeometry d o → IsTrue (is_oriented_if o)
geometry_oriented d o (inl h) = rw h.1 refl
geometry_oriented d o (inr (inl h)) = rw h.2.2 (single_right h.2.0 (coordinates_right h.0 h.2.1.0 h.2.0 h.2.1.2))
geometry_oriented d o (inr (inr h)) = rw h.1.2.2 (collection_right (somes h.1.2.0) (members_right h.1.0 h.1.2.0 h.1.2.1))
