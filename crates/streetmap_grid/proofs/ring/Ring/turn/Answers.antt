use Rattle.std.proofs.Common.{arith, sym, ◌∙◌, ◌≡◌, ap, true, Bool, cond, reverse, ℤ, pos, FitsSigned, rules}
use Rattle.std.specs.Prelude.{int_lt}
use Rattle.std.proofs.lemmas.Int.{to_z-of_z}
use mir.Syntax.{w128}
use Rattle.streetmap_grid.specs.PositionViews.{position_value, positions_value}
use Rattle.streetmap_grid.specs.Views.{ring_value}
use Rattle.streetmap_grid.specs.Ring.{is_closed, is_wrong, double_area}
use Rattle.streetmap_grid.proofs.Closing.{reverse_closed}
use Rattle.streetmap_grid.proofs.Turning.{map-reverse}
use Rattle.streetmap_grid.proofs.ring.Ring.turn.Goals as goal
use Rattle.streetmap_grid.proofs.ring.Ring.turn.Goals.{then-hole, else-hole}

pub invariant_of-self : goal.invariant_of-self
invariant_of-self c =
    let k = c.args.self.now in
    let e = ap positions_value c.reverse.ensures.items ∙ map-reverse position_value k.positions.items in
    record {
      long = omega (arith, k.long, c.reverse.ensures.len);
      closed = ap is_closed e ∙ reverse_closed (positions_value k.positions.items) k.closed;
    }

pub returns-then-wrong : goal.returns-then-wrong
returns-then-wrong c =
    let ps = ring_value c.args.self.now in
    let e : positions_value c.reverse.new.self.items ≡ reverse ps = ap positions_value c.reverse.ensures.items ∙ map-reverse position_value c.args.self.now.positions.items in
    let fits : FitsSigned w128 c.double_area-area.result = search rules in
    let area : c.double_area-area.result ≡ double_area ps = c.double_area-area.ensures in
    let w : is_wrong c.args.hole (double_area ps) ≡ true =
    elim c.if-hole.branch [
      | then-hole w ↦ (let k = simp to_z-of_z at w.wrong-is in ap (λ (b : Bool). is_wrong b (double_area ps)) w.if-hole.true ∙ ap (int_lt (pos 0)) (sym area) ∙ sym k ∙ c.if-wrong.true)
      | else-hole w ↦ (let k = simp to_z-of_z at w.wrong-is in ap (λ (b : Bool). is_wrong b (double_area ps)) w.if-hole.false ∙ ap (λ (n : ℤ). int_lt n (pos 0)) (sym area) ∙ sym k ∙ c.if-wrong.true)
    ] in
    e ∙ sym (ap (λ (b : Bool). cond b (reverse ps) ps) w)
