use Rattle.std.proofs.Common.{arith, ap, ◌∙◌, ◌≡◌}
use Rattle.streetmap_grid.specs.Views.{rings_value}
use Rattle.streetmap_grid.specs.Ring.{oriented, is_oriented_polygon}
use Rattle.streetmap_grid.proofs.Turning.{turned_each, oriented_right}
use Rattle.streetmap_grid.proofs.polygon.Polygon.oriented.Goals as goal

pub returns-clause-value : goal.returns-clause-value
returns-clause-value c =
    let old = c.args.self.rings in
    let new = c.loop-i.rings in
    turned_each new.items old.items (omega (arith, c.loop-i.invariant.len, old.ok, new.ok)) (λ k d lt. c.loop-i.invariant.done k d (omega (arith, old.ok)))

pub returns-clause-right : goal.returns-clause-right
returns-clause-right c =
    let old = c.args.self.rings in
    let new = c.loop-i.rings in
    let e : rings_value new.items ≡ oriented (rings_value old.items) = turned_each new.items old.items (omega (arith, c.loop-i.invariant.len, old.ok, new.ok)) (λ k d lt. c.loop-i.invariant.done k d (omega (arith, old.ok))) in
    ap is_oriented_polygon e ∙ oriented_right (rings_value old.items)
