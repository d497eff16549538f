use Rattle.std.proofs.Common.{◌≡◌, ◌%◌, take, cond}
use Rattle.std.specs.List.{sum_by}
use Rattle.streetmap_grid.specs.Views.{ring_value}
use Rattle.streetmap_grid.specs.Crossings.{crossings}
use Rattle.streetmap_grid.proofs.crossings.holds_corner.Given as goal

abbrev pub invariant-loop-ring : goal.invariant-loop-ring
invariant-loop-ring l = cond l.odd 1 0 ≡ sum_by (λ r. crossings l.area.x0 l.area.y0 (ring_value r)) (take l.ring-index l.rings) % 2
