use Rattle.std.proofs.Common.{◌≡◌, ◌≤◌, List, Option, map, drop}
use Rattle.serde_json.specs.View.{view}
use Rattle.streetmap_grid.specs.Values.{SimpleValue}
use Rattle.streetmap_grid.specs.Views.{simples_value}
use Rattle.streetmap_geojson.specs.ParsedGeometries.{each, member_of_collection, somes, max_positions}
use Rattle.streetmap_geojson.proofs.Fronts.{with_front}
use Rattle.streetmap_geojson.proofs.geometry.read_members.Given as goal

-- front: what the values so far read as, with those that are null
abbrev pub invariant-loop-value : goal.invariant-loop-value
invariant-loop-value l =
    (l.seen ≤ max_positions) × ((front : List (Option SimpleValue)) × (simples_value l.read.items ≡ somes front)
    × (with_front front (each member_of_collection (map view (drop l.value-index l.values)) l.seen) ≡ each member_of_collection (map view l.values) l.fn.seen))
