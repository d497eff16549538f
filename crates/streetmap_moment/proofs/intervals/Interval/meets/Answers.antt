use Rattle.std.specs.Prelude.{not}
use Rattle.std.proofs.Common.{rules, ◌≡◌}
use Rattle.streetmap_moment.specs.Meeting.{meets}
use Rattle.streetmap_moment.specs.Views.{interval_value}
use Rattle.streetmap_moment.proofs.IntervalFacts.{interval_facts, meets-seconds_overlap, meets-by}
use Rattle.streetmap_moment.proofs.intervals.Interval.meets.Goals as goal

pub returns-then-not-starts_after-clause-seconds : goal.returns-then-not-starts_after-clause-seconds
returns-then-not-starts_after-clause-seconds c = λ t.
    meets-seconds_overlap _ _ (interval_facts c.args.self.now) (interval_facts c.args.other.now)
    (rw (← c.starts_after.ensures, c.if-not-starts_after.true, ← c.starts_after-then-not-starts_after.ensures) t)

pub returns-then-not-starts_after-clause-common : goal.returns-then-not-starts_after-clause-common
returns-then-not-starts_after-clause-common c =
    let value : not c.starts_after-then-not-starts_after.result ≡ meets (interval_value c.args.self.now) (interval_value c.args.other.now) = search rules in
    meets-by _ _ _ (interval_facts c.args.self.now) (interval_facts c.args.other.now) value
