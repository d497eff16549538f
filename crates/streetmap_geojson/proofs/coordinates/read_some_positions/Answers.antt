use Rattle.std.proofs.Common.{arith, map, length, ◌≡◌}
use Rattle.std.proofs.lemmas.List.{length-map}
use Rattle.serde_json.specs.View.{view}
use Rattle.streetmap_grid.specs.Views.{positions_value}
use Rattle.streetmap_geojson.specs.declared.fault.Fault.TheVariants.{BadPosition}
use Rattle.streetmap_geojson.specs.ParsedGeometries.{inside, position}
use Rattle.streetmap_geojson.proofs.Steps.{each_length}
use Rattle.streetmap_geojson.proofs.coordinates.read_some_positions.Goals as goal

pub new-requires : goal.new-requires
new-requires c =
    let read = c.in_ok-positions.positions.items in
    let same : length (positions_value read) ≡ length (map view c.args.values.now) = each_length (inside BadPosition position) _ _ _ _ c.in_ok-positions.ensures.reads in
    let counts : length read ≡ length c.args.values.now = simp length-map at same in
    omega (arith, counts, c.requires.some, c.in_ok-positions.positions.ok.0)
