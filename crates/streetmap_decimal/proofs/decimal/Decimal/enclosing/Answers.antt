use Rattle.std.proofs.Common.{◌<◌, ◌^◌, rules, ap, ◌∙◌, pos, FitsSigned}
use Rattle.std.specs.Prelude.{unsigned_abs, int_lt}
use Rattle.std.specs.Int.{w128}
use Rattle.std.proofs.lemmas.Int.{to_z-of_z}
use Rattle.streetmap_decimal.specs.NumberText.{signed}
use Rattle.streetmap_decimal.proofs.Signs.{raised}
use Rattle.streetmap_decimal.proofs.decimal.Decimal.enclosing.Goals as goal

pub returns : goal.returns
returns c =
    let m = c.args.self.now.mantissa in
    let e = c.args.self.now.exponent in
    let f : FitsSigned w128 m = search rules in
    let g : FitsSigned w128 e = search rules in
    let small : unsigned_abs e < 10 ^ 38 = search rules in
    let short : c.args.places < 256 = search rules in
    let magnitude = c.unsigned_abs.ensures.value ∙ ap unsigned_abs (to_z-of_z w128 m f) in
    let h = rw (magnitude, raised e c.args.places g small short) at c.in_ok-lower.ensures in
    let r : FitsSigned w128 c.signed.result = search rules in
    let q : FitsSigned w128 c.signed-2.result = search rules in
    let u = c.in_ok-lower.lower in
    let v = c.in_ok-lower.upper in
    let sign = to_z-of_z w128 m f in (
      (u, v),
      (
        h,
        (
          to_z-of_z w128 c.signed.result r ∙ c.signed.ensures
              ∙ ap (λ z. signed (int_lt z (pos 0)) u) sign,
          to_z-of_z w128 c.signed-2.result q ∙ c.signed-2.ensures
              ∙ ap (λ z. signed (int_lt z (pos 0)) v) sign,
        ),
      ),
    )
