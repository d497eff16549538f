-- What the ghost fields say, of plain values.
use Rattle.std.specs.Prelude.{◌≤◌, List, [], ◌∷◌, All, map, length}
use Rattle.std.proofs.Common.{arith}
use Rattle.std.proofs.lemmas.List.{length-map}
use Rattle.std.proofs.lemmas.List.Elements.{All-nil, All-cons}
use Rattle.streetmap_grid.specs.declared.position.Position.{Position}
use Rattle.streetmap_grid.specs.declared.grid_box.GridBox.{GridBox}
use Rattle.streetmap_grid.specs.declared.line.Line.{Line}
use Rattle.streetmap_grid.specs.declared.ring.Ring.{Ring}
use Rattle.streetmap_grid.specs.declared.polygon.Polygon.{Polygon}
use Rattle.streetmap_grid.specs.declared.non_empty.NonEmpty.{NonEmpty}
use Rattle.streetmap_grid.specs.declared.geometry.SimpleGeometry.{SimpleGeometry}
use Rattle.streetmap_grid.specs.declared.geometry.SimpleGeometry.TheVariants as kind
use Rattle.streetmap_grid.specs.declared.geometry.Geometry.{Geometry}
use Rattle.streetmap_grid.specs.declared.geometry.Geometry.TheVariants.{Simple, Collection}
use Rattle.streetmap_grid.specs.Views.{position_value, positions_value, box_value, items_of, line_value, ring_value, polygon_value, simple_value, geometry_value}
use Rattle.streetmap_grid.specs.WellFormed.{IsInGrid, IsBox, IsLine, IsRing, IsPolygon, IsSimple, IsGeometry}

-- each viewed element is as its view always is
each : {X Y : Type 0} (P : Y → Type 0) (f : X → Y) → ((x : X) → P (f x)) → (xs : List X) → All P (map f xs)
each P f h [] = All-nil P
each P f h (x ∷ xs) = All-cons P (f x) (map f xs) (h x) (each P f h xs)

pub position_facts : (p : Position) → IsInGrid (position_value p)
position_facts p = (p.easting, p.northing, p.height)

pub box_facts : (g : GridBox) → IsBox (box_value g)
box_facts g = (g.west, g.south, g.east, g.north, g.wide, g.tall)

pub positions_facts : (ps : List Position) → All IsInGrid (positions_value ps)
positions_facts ps = each IsInGrid position_value position_facts ps

pub line_facts : (l : Line) → IsLine (line_value l)
line_facts l = (positions_facts l.positions.items, omega (arith, length-map l.positions.items position_value, l.long, l.positions.ok))

pub ring_facts : (r : Ring) → IsRing (ring_value r)
ring_facts r = (positions_facts r.positions.items, omega (arith, length-map r.positions.items position_value, r.long, r.positions.ok), r.closed)

pub polygon_facts : (p : Polygon) → IsPolygon (polygon_value p)
polygon_facts p = (each IsRing ring_value ring_facts p.rings.items, omega (arith, length-map p.rings.items ring_value, p.some, p.rings.ok))

some_items : {X Y : Type 0} (f : X → Y) (n : NonEmpty X) → 1 ≤ length (map f (items_of n))
some_items f n = omega (arith, length-map (items_of n) f, n.some, n.items.ok)

pub simple_facts : (s : SimpleGeometry) → IsSimple (simple_value s)
simple_facts (kind.Point p) = position_facts p
simple_facts (kind.MultiPoint ps) = (positions_facts (items_of ps), some_items position_value ps)
simple_facts (kind.LineString l) = line_facts l
simple_facts (kind.MultiLineString ls) = (each IsLine line_value line_facts (items_of ls), some_items line_value ls)
simple_facts (kind.Polygon p) = polygon_facts p
simple_facts (kind.MultiPolygon ps) = (each IsPolygon polygon_value polygon_facts (items_of ps), some_items polygon_value ps)

pub geometry_facts : (g : Geometry) → IsGeometry (geometry_value g)
geometry_facts (Simple s) = simple_facts s
geometry_facts (Collection ss) = (each IsSimple simple_value simple_facts (items_of ss), some_items simple_value ss)
