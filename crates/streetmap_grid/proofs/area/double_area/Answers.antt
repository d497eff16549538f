use Rattle.std.proofs.Common.{arith}
use Rattle.std.proofs.lemmas.Int.{ints}
use Rattle.streetmap_grid.proofs.Walk.{area_at, area_left}
use Rattle.streetmap_grid.proofs.area.double_area.Goals as goal

pub overflow_add-sum : goal.overflow_add-sum
overflow_add-sum c = omega (arith, ints)

pub loop-i-preserved : goal.loop-i-preserved
loop-i-preserved c =
    let k = area_at c.args.positions.now c.loop-i.i c.index-positions-i.result c.index-positions-i-in-loop-i.result (omega arith) (omega arith) c.index-positions-i.is c.index-positions-i-in-loop-i.is in
    omega (arith, ints)

pub returns : goal.returns
returns c =
    let k = area_left c.args.positions.now c.loop-i.i (omega arith) in
    omega (arith, ints)
