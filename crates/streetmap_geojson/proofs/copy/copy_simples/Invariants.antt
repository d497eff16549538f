use Rattle.std.proofs.Common.{◌≡◌, take}
use Rattle.streetmap_grid.specs.Views.{simples_value}
use Rattle.streetmap_geojson.proofs.copy.copy_simples.Given as goal

abbrev pub invariant-loop-geometry : goal.invariant-loop-geometry
invariant-loop-geometry l = simples_value l.copies.items ≡ simples_value (take l.geometry-index l.geometries)
