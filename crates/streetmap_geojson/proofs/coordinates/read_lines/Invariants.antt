use Rattle.std.proofs.Common.{◌≡◌, ◌≤◌, map, drop}
use Rattle.serde_json.specs.View.{view}
use Rattle.streetmap_grid.specs.Views.{lines_value}
use Rattle.streetmap_geojson.specs.declared.fault.Fault.TheVariants.{BadGeometry}
use Rattle.streetmap_geojson.specs.ParsedGeometries.{each, inside, line, max_positions}
use Rattle.streetmap_geojson.proofs.Fronts.{with_front}
use Rattle.streetmap_geojson.proofs.coordinates.read_lines.Given as goal

abbrev pub invariant-loop-value : goal.invariant-loop-value
invariant-loop-value l = record {
  counted : l.seen ≤ max_positions;
  rest : with_front (lines_value l.read.items) (each (inside BadGeometry line) (map view (drop l.value-index l.values)) l.seen) ≡ each (inside BadGeometry line) (map view l.values) l.fn.seen;
}
