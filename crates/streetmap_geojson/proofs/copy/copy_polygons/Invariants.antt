use Rattle.std.proofs.Common.{◌≡◌, take}
use Rattle.streetmap_grid.specs.Views.{polygons_value}
use Rattle.streetmap_geojson.proofs.copy.copy_polygons.Given as goal

abbrev pub invariant-loop-polygon : goal.invariant-loop-polygon
invariant-loop-polygon l = polygons_value l.copies.items ≡ polygons_value (take l.polygon-index l.polygons)
