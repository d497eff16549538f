-- Intervals that meet, and the seconds of an interval.
use Rattle.std.specs.Prelude.{◌≡◌, Bool, not, ◌&&◌, Option, Some, None, ℤ, pos, neg_ℤ, ◌+ℤ◌, ◌*ℤ◌}
use Rattle.std.specs.Prelude.{◌≤ℤ◌, ◌<ℤ◌, int_le}
use Rattle.std.specs.Int.{int_div_euclid}
use Rattle.streetmap_moment.specs.IntervalValue.{IntervalValue, IsInOrder, starts_after}

-- the first is over before the second begins; an open end is never over, and an open start has
-- always begun
abbrev pub EndsBefore : IntervalValue → IntervalValue → Type 0
EndsBefore a b = (e : ℤ) × (s : ℤ) × (a.end ≡ Some e) × (b.start ≡ Some s) × (e <ℤ s)

-- neither ends before the other starts (OGC 17-069 7.15.4: the temporal intersection of `datetime`)
abbrev pub Meets : IntervalValue → IntervalValue → Type 0
Meets a b = (¬ EndsBefore a b) × (¬ EndsBefore b a)

-- the moment lies in the interval, whose ends belong to it
abbrev pub Includes : IntervalValue → ℤ → Type 0
Includes i n = IsInOrder i.start (Some n) × IsInOrder (Some n) i.end

-- some moment lies in both
abbrev pub HaveCommonMoment : IntervalValue → IntervalValue → Type 0
HaveCommonMoment a b = (n : ℤ) × Includes a n × Includes b n

-- the test of meeting
abbrev pub meets : IntervalValue → IntervalValue → Bool
meets a b = not (starts_after b.start a.end) && not (starts_after a.start b.end)

-- the second s is that of the moment n, rounded down
abbrev pub IsSecondOf : ℤ → ℤ → Type 0
IsSecondOf n s = ((s *ℤ pos 1_000_000_000) ≤ℤ n) × (n <ℤ ((s +ℤ pos 1) *ℤ pos 1_000_000_000))

-- the bounds of the seconds of a kept interval, which an open end has
abbrev pub IsSecond : ℤ → Type 0
IsSecond s = (neg_ℤ (pos 1_000_000_000_000) ≤ℤ s) × (s ≤ℤ pos 1_000_000_000_000)

-- the second of a moment, rounded down
abbrev pub second_of : ℤ → ℤ
second_of n = int_div_euclid n (pos 1_000_000_000)

-- the second of a start, far in the past if it is open
abbrev pub first_second : Option ℤ → ℤ
first_second None = neg_ℤ (pos 1_000_000_000_000)
first_second (Some n) = second_of n

-- the second of an end, far in the future if it is open
abbrev pub last_second : Option ℤ → ℤ
last_second None = pos 1_000_000_000_000
last_second (Some n) = second_of n

-- the first and the last second of an interval
abbrev pub seconds_of : IntervalValue → ℤ × ℤ
seconds_of i = (first_second i.start, last_second i.end)

-- two intervals have a second in common, both ends included
abbrev pub seconds_overlap : IntervalValue → IntervalValue → Bool
seconds_overlap a b =
    int_le (first_second a.start) (last_second b.end)
    && int_le (first_second b.start) (last_second a.end)
