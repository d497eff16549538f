use Rattle.std.proofs.Common.{arith, cond, ◌+◌, ◌-◌, drop, ◌≡◌, FitsSigned, w64, not, ap, sym, ◌∙◌}
use Rattle.std.proofs.lemmas.Int.{to_z-of_z}
use Rattle.streetmap_grid.specs.PositionViews.{positions_value}
use Rattle.streetmap_grid.specs.Crossings.{crossings}
use Rattle.streetmap_grid.proofs.Counting.{crossings_at, crossings_left, turn_step, turn_end}
use Rattle.streetmap_grid.proofs.crossings.turned_over.Goals as goal
use Rattle.streetmap_grid.proofs.crossings.turned_over.Goals.{then-crosses, else-crosses}

pub loop-i-preserved : goal.loop-i-preserved
loop-i-preserved c =
    let x : FitsSigned w64 c.args.x = c.ranges.x in
    let y : FitsSigned w64 c.args.y = c.ranges.y in
    let h = simp to_z-of_z at c.loop-i.invariant in
    let e = simp to_z-of_z at c.crosses.ensures in
    let i = c.loop-i.i in
    let k = crossings_at c.args.x c.args.y c.args.ring.now i c.index-ring-i.result c.index-ring-i-in-loop-i.result (omega arith) (omega arith) c.index-ring-i.is c.index-ring-i-in-loop-i.is in
    let f : c.if-crosses.inside ≡ cond c.crosses.result (not c.loop-i.inside) c.loop-i.inside =
    elim c.if-crosses.branch [ then-crosses w ↦ w.inside-is ∙ ap (λ b. cond b (not c.loop-i.inside) c.loop-i.inside) (sym w.if-crosses.true) | else-crosses w ↦ w.inside-is ∙ ap (λ b. cond b (not c.loop-i.inside) c.loop-i.inside) (sym w.if-crosses.false) ] in
    simp to_z-of_z
    (turn_step c.loop-i.inside c.if-crosses.inside c.crosses.result
    (crossings c.args.x c.args.y (drop (i - 1) (positions_value c.args.ring.now)))
    (crossings c.args.x c.args.y (drop (i + 1 - 1) (positions_value c.args.ring.now)))
    _
    f
    (k ∙ ap (λ b. cond b 1 0 + crossings c.args.x c.args.y (drop (i + 1 - 1) (positions_value c.args.ring.now))) (sym e))
    h)

pub returns : goal.returns
returns c =
    let x : FitsSigned w64 c.args.x = c.ranges.x in
    let y : FitsSigned w64 c.args.y = c.ranges.y in
    let h = simp to_z-of_z at c.loop-i.invariant in
    turn_end c.loop-i.inside _ _ (crossings_left c.args.x c.args.y c.args.ring.now c.loop-i.i (omega arith)) h
