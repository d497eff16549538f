use Rattle.std.proofs.lemmas.Result.{err_from_is_err_and}
use Rattle.std.proofs.lemmas.List.{map_push}
use Rattle.serde_json.specs.View.{view}
use Rattle.streetmap_grid.specs.Views.{polygons_value, polygon_value}
use Rattle.streetmap_geojson.specs.declared.fault.Fault.TheVariants.{BadGeometry}
use Rattle.streetmap_geojson.specs.ParsedGeometries.{inside, polygon}
use Rattle.streetmap_geojson.proofs.Fronts.{goes_on, ends, is_done, starts}
use Rattle.streetmap_geojson.proofs.coordinates.read_polygons.Goals as goal

pub loop-value-init : goal.loop-value-init
loop-value-init c = record { counted = c.requires; rest = rw c.in_ok-read.ensures.items (starts _) }

pub loop-value-preserved : goal.loop-value-preserved
loop-value-preserved c = record {
  counted = c.in_ok-read_polygon_in.ensures.counted;
  rest = rw (c.in_ok-push.ensures.items, map_push polygon_value c.loop-value.read.items c.in_ok-read_polygon_in.field-0) (goes_on view (inside BadGeometry polygon) c.args.values.now c.loop-value.value-index c.value-item.result (polygons_value c.loop-value.read.items) (polygon_value c.in_ok-read_polygon_in.field-0) c.loop-value.seen c.read_polygon_in.new.seen _ c.loop-value-test.true c.value-item.is c.in_ok-read_polygon_in.ensures.reads c.loop-value.invariant.rest);
}

pub returns-in_err-read_polygon_in-clause-reads : goal.returns-in_err-read_polygon_in-clause-reads
returns-in_err-read_polygon_in-clause-reads c =
    let p = err_from_is_err_and c.from_residual-in_err-read_polygon_in.result c.from_residual-in_err-read_polygon_in.ensures.1 in
    rw (p.1, p.2) (ends view (inside BadGeometry polygon) c.args.values.now c.loop-value.value-index c.value-item.result c.in_err-read_polygon_in.field-0.0 (polygons_value c.loop-value.read.items) c.loop-value.seen _ c.loop-value-test.true c.value-item.is c.in_err-read_polygon_in.ensures.reads c.loop-value.invariant.rest)

pub returns-clause-reads : goal.returns-clause-reads
returns-clause-reads c = is_done view (inside BadGeometry polygon) c.args.values.now c.loop-value.value-index (polygons_value c.loop-value.read.items) c.loop-value.seen _ c.loop-value-test.false c.loop-value.invariant.rest
