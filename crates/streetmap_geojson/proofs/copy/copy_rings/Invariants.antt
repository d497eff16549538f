use Rattle.std.proofs.Common.{◌≡◌, take}
use Rattle.streetmap_grid.specs.Views.{rings_value}
use Rattle.streetmap_geojson.proofs.copy.copy_rings.Given as goal

abbrev pub invariant-loop-ring : goal.invariant-loop-ring
invariant-loop-ring l = rings_value l.copies.items ≡ rings_value (take l.ring-index l.rings)
