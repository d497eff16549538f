use Rattle.std.proofs.Common.{ℕ, List, Err, ap, subst}
use Rattle.serde_json.specs.View.{view}
use Rattle.streetmap_decimal.specs.Axes.{shift_of}
use Rattle.streetmap_decimal.specs.Grid.{PlacesText}
use Rattle.streetmap_placing.specs.Placed.{IsPlacedCoordinate}
use Rattle.streetmap_placing.proofs.Outcomes.{answered}
use Rattle.streetmap_placing.proofs.number.placed_number.Goals as goal

pub returns-in-Err : goal.returns-in-Err
returns-in-Err c =
    let p = c.args.placement.now in
    let fault = c.in-Err.fault in
    let placed = subst
    (λ (t : List ℕ). PlacesText (shift_of c.args.axis p.shift) p.scale.count p.rounding t
    (Err fault)) c.as_bytes.ensures.value c.in-Err.ensures.places in
    answered view c.of_decimal.result (IsPlacedCoordinate p c.args.axis c.args.text.now)
    (Err fault, (placed, ap Err c.of_decimal.ensures))
