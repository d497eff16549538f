use Rattle.std.proofs.Common.{arith, sym, ◌∙◌, ◌≡◌, refl, false, length}
use Rattle.std.specs.Prelude.{nat_lt}
use Rattle.std.proofs.lemmas.List.{length-map}
use Rattle.streetmap_grid.specs.PositionViews.{position_value, positions_value}
use Rattle.streetmap_grid.specs.Ring.{is_closed}
use Rattle.streetmap_grid.proofs.Closing.{closed_at}
use Rattle.streetmap_grid.proofs.Booleans.{long_enough}
use Rattle.streetmap_grid.proofs.ring.Ring.new.Goals as goal

pub invariant_of-result : goal.invariant_of-result
invariant_of-result c =
    let ps = c.args.positions in
    let k = closed_at ps.items c.len-n.result c.index.result.now c.index-2.result.now (omega arith) (omega (arith, ps.ok)) c.index.ensures c.index-2.ensures in
    record { long = omega arith; closed = k ∙ sym c.eq.ensures ∙ c.if-eq.true }

pub returns-else-eq-clause-refused : goal.returns-else-eq-clause-refused
returns-else-eq-clause-refused c =
    let ps = c.args.positions in
    let k = closed_at ps.items c.len-n.result c.index.result.now c.index-2.result.now (omega arith) (omega (arith, ps.ok)) c.index.ensures c.index-2.ensures in
    let e : is_closed (positions_value ps.items) ≡ false = k ∙ sym c.eq.ensures ∙ c.if-eq.false in
    let n : nat_lt (length (positions_value ps.items)) 4 ≡ false = long_enough _ 4 (omega (arith, ps.ok, length-map ps.items position_value)) in
    rw (n, e) refl
