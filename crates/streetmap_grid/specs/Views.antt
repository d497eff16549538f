-- What Rust's types hold, as plain values.
use Rattle.std.specs.Prelude.{List, map}
use Rattle.streetmap_grid.specs.declared.grid_box.GridBox.{GridBox}
use Rattle.streetmap_grid.specs.declared.line.Line.{Line}
use Rattle.streetmap_grid.specs.declared.ring.Ring.{Ring}
use Rattle.streetmap_grid.specs.declared.polygon.Polygon.{Polygon}
use Rattle.streetmap_grid.specs.declared.non_empty.NonEmpty.{NonEmpty}
use Rattle.streetmap_grid.specs.declared.geometry.SimpleGeometry.{SimpleGeometry}
use Rattle.streetmap_grid.specs.declared.geometry.SimpleGeometry.TheVariants as kind
use Rattle.streetmap_grid.specs.declared.geometry.Geometry.{Geometry}
use Rattle.streetmap_grid.specs.declared.geometry.Geometry.TheVariants.{Simple, Collection}
pub use Rattle.streetmap_grid.specs.PositionViews.{position_value, positions_value}
use Rattle.streetmap_grid.specs.Values.{PositionValue, BoxValue, SimpleValue, GeometryValue, point}
use Rattle.streetmap_grid.specs.Values.{multi_point, line_string, multi_line_string, polygon}
use Rattle.streetmap_grid.specs.Values.{multi_polygon, simple, collection}

-- a box
abbrev pub box_value : GridBox → BoxValue
box_value g = record { x0 = g.x0; y0 = g.y0; x1 = g.x1; y1 = g.y1 }

-- the items of a list that is not empty
abbrev pub items_of : {T : Type 0} → NonEmpty T → List T
items_of n = n.items.items

-- a line, as its positions
abbrev pub line_value : Line → List PositionValue
line_value l = positions_value l.positions.items

-- lines, each as its positions
abbrev pub lines_value : List Line → List (List PositionValue)
lines_value ls = map line_value ls

-- a ring, as its positions
abbrev pub ring_value : Ring → List PositionValue
ring_value r = positions_value r.positions.items

-- rings, each as its positions
abbrev pub rings_value : List Ring → List (List PositionValue)
rings_value rs = map ring_value rs

-- a polygon, as its rings
abbrev pub polygon_value : Polygon → List (List PositionValue)
polygon_value p = rings_value p.rings.items

-- polygons, each as its rings
abbrev pub polygons_value : List Polygon → List (List (List PositionValue))
polygons_value ps = map polygon_value ps

-- a geometry of one of the six kinds
abbrev pub simple_value : SimpleGeometry → SimpleValue
simple_value (kind.Point p) = point (position_value p)
simple_value (kind.MultiPoint ps) = multi_point (positions_value (items_of ps))
simple_value (kind.LineString l) = line_string (line_value l)
simple_value (kind.MultiLineString ls) = multi_line_string (lines_value (items_of ls))
simple_value (kind.Polygon p) = polygon (polygon_value p)
simple_value (kind.MultiPolygon ps) = multi_polygon (polygons_value (items_of ps))

-- geometries of the six kinds
abbrev pub simples_value : List SimpleGeometry → List SimpleValue
simples_value ss = map simple_value ss

-- a geometry
abbrev pub geometry_value : Geometry → GeometryValue
geometry_value (Simple s) = simple (simple_value s)
geometry_value (Collection ss) = collection (simples_value (items_of ss))
