use Rattle.std.proofs.Common.{Some, None, ap, subst, sym}
use Rattle.std.specs.Option.{option_copied}
use Rattle.streetmap_tables.specs.StoredFeatures.{IsTimed}
use Rattle.streetmap_tables.proofs.TimedFeature.{timed_as}
use Rattle.streetmap_tables.proofs.times.seconds_under.Goals as goal

pub returns-in-Ok-Some-clause-reported : goal.returns-in-Ok-Some-clause-reported
returns-in-Ok-Some-clause-reported c =
    let reported = rw c.in-Ok-Some.field-0-is at (rw c.in-Ok-Some.is at c.in_ok-time.ensures.reported) in
    subst (IsTimed (option_copied c.args.property) c.args.feature.now) (ap (λ x. Some x) (sym c.seconds.ensures.value))
    (timed_as (option_copied c.args.property) c.args.feature.now (Some c.in-Ok-Some.time) c.facts.ensures reported)

pub returns-in-Ok-None-clause-reported : goal.returns-in-Ok-None-clause-reported
returns-in-Ok-None-clause-reported c =
    let reported = rw c.in-Ok-None.field-0-is at (rw c.in-Ok-None.is at c.in_ok-time.ensures.reported) in
    timed_as (option_copied c.args.property) c.args.feature.now None c.facts.ensures reported
