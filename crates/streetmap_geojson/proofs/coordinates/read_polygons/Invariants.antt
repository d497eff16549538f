use Rattle.std.proofs.Common.{◌≡◌, ◌≤◌, map, drop}
use Rattle.serde_json.specs.View.{view}
use Rattle.streetmap_grid.specs.Views.{polygons_value}
use Rattle.streetmap_geojson.specs.declared.fault.Fault.TheVariants.{BadGeometry}
use Rattle.streetmap_geojson.specs.ParsedGeometries.{each, inside, polygon, max_positions}
use Rattle.streetmap_geojson.proofs.Fronts.{with_front}
use Rattle.streetmap_geojson.proofs.coordinates.read_polygons.Given as goal

abbrev pub invariant-loop-value : goal.invariant-loop-value
invariant-loop-value l = record {
  counted : l.seen ≤ max_positions;
  rest : with_front (polygons_value l.read.items) (each (inside BadGeometry polygon) (map view (drop l.value-index l.values)) l.seen) ≡ each (inside BadGeometry polygon) (map view l.values) l.fn.seen;
}
