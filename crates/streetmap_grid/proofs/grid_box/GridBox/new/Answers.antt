use Rattle.std.proofs.Common.{sym, ◌∙◌, ◌≡◌, ◌&&◌, ap, false, None, Some, cond, Bool, FitsSigned, w64}
use Rattle.std.specs.Prelude.{int_le}
use Rattle.std.proofs.lemmas.Int.{to_z-of_z}
use Rattle.streetmap_grid.specs.declared.fault.GridFault.TheVariants.{BadBox}
use Rattle.streetmap_grid.specs.Range.{is_bound}
use Rattle.streetmap_grid.proofs.Booleans.{bound_in, le_true, and_false}
use Rattle.streetmap_grid.proofs.grid_box.GridBox.new.Goals as goal
use Rattle.streetmap_grid.proofs.grid_box.GridBox.new.Goals.{else-x0-x1-via-then-x0-x1+else-y0-y1, else-x0-x1-via-else-x0-x1}

pub invariant_of-result : goal.invariant_of-result
invariant_of-result c =
    record {
      west = bound_in _ (sym c.is_bound.ensures ∙ c.if-not-is_bound.false);
      south = bound_in _ (sym c.is_bound-else-not-is_bound.ensures ∙ c.if-not-is_bound-2.false);
      east = bound_in _ (sym c.is_bound-else-not-is_bound-2.ensures ∙ c.if-not-is_bound-3.false);
      north = bound_in _ (sym c.is_bound-else-not-is_bound-3.ensures ∙ c.if-not-is_bound-4.false);
      wide = le_true _ _ c.if-x0-x1.true;
      tall = le_true _ _ c.if-y0-y1.true;
    }

pub returns-else-x0-x1-clause-refused : goal.returns-else-x0-x1-clause-refused
returns-else-x0-x1-clause-refused c =
    let x0 : FitsSigned w64 c.args.x0 = c.ranges.x0 in
    let y0 : FitsSigned w64 c.args.y0 = c.ranges.y0 in
    let x1 : FitsSigned w64 c.args.x1 = c.ranges.x1 in
    let y1 : FitsSigned w64 c.args.y1 = c.ranges.y1 in
    let wide = int_le c.args.x0 c.args.x1 in
    let tall = int_le c.args.y0 c.args.y1 in
    let order : wide && tall ≡ false =
    elim c.else-x0-x1.branch [
      | else-x0-x1-via-then-x0-x1+else-y0-y1 w ↦ and_false wide tall (simp to_z-of_z at w.if-y0-y1.false)
      | else-x0-x1-via-else-x0-x1 w ↦ (let e = simp to_z-of_z at w.if-x0-x1.false in cc)
    ] in
    let north = and_false (is_bound c.args.y1) _ order in
    let east = and_false (is_bound c.args.x1) _ north in
    let south = and_false (is_bound c.args.y0) _ east in
    let west = and_false (is_bound c.args.x0) _ south in
    ap (λ (b : Bool). cond b None (Some BadBox)) west
