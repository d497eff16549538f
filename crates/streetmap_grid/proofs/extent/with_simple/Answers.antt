use Rattle.std.proofs.Common.{sym, ◌∙◌, ap}
use Rattle.std.specs.List.{flat_map}
use Rattle.streetmap_grid.specs.Views.{positions_value, lines_value, polygons_value, simple_value}
use Rattle.streetmap_grid.specs.Extent.{polygon_vertices, simple_vertices}
use Rattle.streetmap_grid.proofs.Growing.{bounds_same}
use Rattle.streetmap_grid.proofs.extent.with_simple.Goals as goal

pub returns-in-Point : goal.returns-in-Point
returns-in-Point c = λ ps h. bounds_same ps _ _ _ (sym (ap (λ g. simple_vertices (simple_value g)) c.in-Point.is)) (c.grown.ensures ps h)

pub returns-in-MultiPoint : goal.returns-in-MultiPoint
returns-in-MultiPoint c = λ ps h. bounds_same ps _ _ _ (ap positions_value c.items.ensures ∙ sym (ap (λ g. simple_vertices (simple_value g)) c.in-MultiPoint.is)) (c.with_positions.ensures ps h)

pub returns-in-LineString : goal.returns-in-LineString
returns-in-LineString c = λ ps h. bounds_same ps _ _ _ (c.positions.ensures ∙ sym (ap (λ g. simple_vertices (simple_value g)) c.in-LineString.is)) (c.with_positions-in-LineString.ensures ps h)

pub returns-in-MultiLineString : goal.returns-in-MultiLineString
returns-in-MultiLineString c = λ ps h. bounds_same ps _ _ _ (ap (λ ls. flat_map (λ line. line) (lines_value ls)) c.items-in-MultiLineString.ensures ∙ sym (ap (λ g. simple_vertices (simple_value g)) c.in-MultiLineString.is)) (c.with_lines.ensures ps h)

pub returns-in-Polygon : goal.returns-in-Polygon
returns-in-Polygon c = λ ps h. bounds_same ps _ _ _ (ap polygon_vertices c.rings.ensures ∙ sym (ap (λ g. simple_vertices (simple_value g)) c.in-Polygon.is)) (c.with_rings.ensures ps h)

pub returns-in-MultiPolygon : goal.returns-in-MultiPolygon
returns-in-MultiPolygon c = λ ps h. bounds_same ps _ _ _ (ap (λ ps. flat_map polygon_vertices (polygons_value ps)) c.items-in-MultiPolygon.ensures ∙ sym (ap (λ g. simple_vertices (simple_value g)) c.in-MultiPolygon.is)) (c.with_polygons.ensures ps h)
