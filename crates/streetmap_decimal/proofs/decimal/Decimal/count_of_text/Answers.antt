use Rattle.streetmap_decimal.specs.Decimal.{ReadsDecimal, Counts}
use Rattle.streetmap_decimal.proofs.Steps.{then_next}
use Rattle.streetmap_decimal.proofs.decimal.Decimal.count_of_text.Goals as goal

pub returns : goal.returns
returns c =
    let d = c.in_ok-decimal.decimal in
    then_next (ReadsDecimal c.args.text.now) (λ d. Counts c.args.places d.0 d.1) (d.mantissa, d.exponent)
    c.count.result c.in_ok-decimal.ensures c.count.ensures
