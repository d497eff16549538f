use Rattle.std.proofs.Common.{◌≡◌, ◌≤◌, map, drop}
use Rattle.serde_json.specs.View.{view}
use Rattle.streetmap_grid.specs.Views.{positions_value}
use Rattle.streetmap_geojson.specs.declared.fault.Fault.TheVariants.{BadPosition}
use Rattle.streetmap_geojson.specs.ParsedGeometries.{each, inside, position, max_positions}
use Rattle.streetmap_geojson.proofs.Fronts.{with_front}
use Rattle.streetmap_geojson.proofs.coordinates.read_positions.Given as goal

abbrev pub invariant-loop-value : goal.invariant-loop-value
invariant-loop-value l = record {
  counted : l.seen ≤ max_positions;
  rest : with_front (positions_value l.read.items) (each (inside BadPosition position) (map view (drop l.value-index l.values)) l.seen) ≡ each (inside BadPosition position) (map view l.values) l.fn.seen;
}
