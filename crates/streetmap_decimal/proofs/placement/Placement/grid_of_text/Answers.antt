use Rattle.std.proofs.Common.{subst, ℤ}
use Rattle.streetmap_decimal.specs.Axes.{shift_of}
use Rattle.streetmap_decimal.specs.Decimal.{ReadsDecimal}
use Rattle.streetmap_decimal.specs.Grid.{Places, PlacesText}
use Rattle.streetmap_decimal.proofs.Exactly.{if_nearest}
use Rattle.streetmap_decimal.proofs.OffGrid.{text_off_grid, shift_small}
use Rattle.streetmap_decimal.proofs.Steps.{then_next}
use Rattle.streetmap_decimal.proofs.placement.Placement.grid_of_text.Goals as goal

pub returns : goal.returns
returns c =
    let p = c.args.self.now in
    let shift = shift_of c.args.axis p.shift in
    let d = c.in_ok-coordinate.coordinate in
    let r = c.grid.result in
    let scaled = subst (λ (s : ℤ). Places c.axis.result.shift s p.rounding d.mantissa d.exponent r)
    c.axis.ensures.scale c.grid.ensures in
    let at = subst (λ (s : ℤ). Places s p.scale.count p.rounding d.mantissa d.exponent r)
    c.axis.ensures.shift scaled in
    let all = then_next (ReadsDecimal c.args.text.now) (λ d. Places shift p.scale.count p.rounding d.0 d.1)
    (d.mantissa, d.exponent) r c.in_ok-coordinate.ensures at in
    record {
      places = all;
      nearest = if_nearest shift p.scale.count p.rounding c.args.text.now r p.scale.above_zero all;
      off_grid = λ e. text_off_grid shift p.scale.count p.rounding c.args.text.now
          (shift_small c.args.axis p.shift) p.scale.above_zero p.scale.count_in
          (subst (PlacesText shift p.scale.count p.rounding c.args.text.now) e all);
    }
