-- Intervals of time as plain values.
use Rattle.std.specs.Prelude.{Bool, false, ◌||◌, Option, Some, None, is_some, IsTrue, ℤ, ◌≤ℤ◌}
use Rattle.std.specs.Prelude.{int_lt, refl}
use Rattle.std.specs.Option.{ForSome}
use Rattle.std.specs.Coded.{Coded, code_by, coded×, coded_option, coded_ℤ}
use Rattle.streetmap_moment.specs.Range.{IsMoment}

-- the two ends, in nanoseconds since 1970-01-01T00:00:00Z; a missing end is open
pub record IntervalValue : Type 0 where
  pub start : Option ℤ
  pub end : Option ℤ

-- an interval is stored as the pair of its ends
abbrev pub coded_interval : Coded IntervalValue
coded_interval =
    code_by (Option ℤ × Option ℤ) (coded× (coded_option coded_ℤ) (coded_option coded_ℤ)) (λ i.
    (i.start, i.end)) (λ p. record { start = p.0; end = p.1 }) (λ _. refl)

-- the start is after the end, if both are given
abbrev pub starts_after : Option ℤ → Option ℤ → Bool
starts_after None end = false
starts_after (Some s) None = false
starts_after (Some s) (Some e) = int_lt e s

-- the start is not after the end, if both are given
abbrev pub IsInOrder : Option ℤ → Option ℤ → Type 0
IsInOrder None end = Unit {0}
IsInOrder (Some s) None = Unit {0}
IsInOrder (Some s) (Some e) = s ≤ℤ e

-- what each kept interval is: not open on both sides, in order, and within the calendar
pub record IsInterval (i : IntervalValue) : Type 0 where
  pub bounded : IsTrue (is_some i.start || is_some i.end)
  pub ordered : IsInOrder i.start i.end
  pub start_in : ForSome i.start IsMoment
  pub end_in : ForSome i.end IsMoment
