use Rattle.std.proofs.Common.{rules}
use Rattle.streetmap_reading.proofs.FeatureStatement.{null_is}
use Rattle.streetmap_reading.proofs.feature.is_timeless.Goals as goal

pub returns-in-Ok-Null : goal.returns-in-Ok-Null
returns-in-Ok-Null c f is reported =
    let it = c.in-Ok-Null.ensures.ok.1 in
    let e = c.in-Ok-Null.field-0-is in
    null_is f c.args.row.now is (search (rules, it, e))
