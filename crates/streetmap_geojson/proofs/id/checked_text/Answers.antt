use Rattle.std.proofs.Common.{◌≡◌, string_bytes, FitsSigned}
use Rattle.std.specs.Fmt.{signed_decimal}
use Rattle.std.specs.Int.{w128}
use Rattle.std.proofs.lemmas.Int.{to_z-of_z}
use Rattle.std.proofs.lemmas.Result.{IfOk-weaker}
use Rattle.streetmap_geojson.proofs.Ids.{decimal_id, magnitude_fits}
use Rattle.streetmap_geojson.proofs.id.checked_text.Goals as goal

pub returns-clause-named : goal.returns-clause-named
returns-clause-named c =
    let fits : FitsSigned w128 c.args.number = c.ranges.number in
    IfOk-weaker c.decimal_text.result _ _ (λ s is. let same : string_bytes s ≡ signed_decimal c.args.number = simp to_z-of_z at is in rw same (decimal_id c.args.number (magnitude_fits c.args.number fits))) c.decimal_text.ensures
