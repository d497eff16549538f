use Rattle.std.proofs.Common.{◌<◌, subst, ap, ◌∙◌, ℕ, pos}
use Rattle.std.specs.Prelude.{unsigned_abs, int_lt}
use Rattle.std.specs.Int.{w128}
use Rattle.std.proofs.lemmas.Int.{to_z-of_z}
use Rattle.streetmap_decimal.specs.NumberText.{signed}
use Rattle.streetmap_decimal.proofs.NearestFacts.{rounded, nearest_is, out_of_grid}
use Rattle.streetmap_decimal.proofs.placement.nearest_coordinate.Goals as goal

pub returns-then-nearest-gt-GREATEST_COORDINATE : goal.returns-then-nearest-gt-GREATEST_COORDINATE
returns-then-nearest-gt-GREATEST_COORDINATE c =
    let z = c.args.placed in
    let b = int_lt z (pos 0) in
    let magnitude = c.unsigned_abs.ensures.value
    ∙ ap unsigned_abs (to_z-of_z w128 z c.ranges.placed) in
    let far : 1_000_000_000 < rounded (unsigned_abs z) =
    subst (λ (n : ℕ). 1_000_000_000 < rounded n) magnitude
    c.if-nearest-gt-GREATEST_COORDINATE.true in (
      signed b (rounded (unsigned_abs z)),
      (nearest_is z, out_of_grid b (rounded (unsigned_abs z)) far),
    )
