-- A time by the seconds of its ends, and the nanoseconds of these seconds.
use Rattle.std.specs.Prelude.{ℤ, ℕ, pos, ◌+ℤ◌, ◌*ℤ◌, Option, None, Some, nat_lt, if◌then◌else◌}
use Rattle.streetmap_moment.specs.IntervalValue.{IntervalValue}

-- the moment this many nanoseconds into a second; none if a second has fewer
abbrev pub end_at : ℤ → ℕ → Option ℤ
end_at second nanoseconds = if nat_lt nanoseconds 1_000_000_000
    then Some (second *ℤ pos 1_000_000_000 +ℤ pos nanoseconds) else None

-- the time between two ends; none if both are missing
abbrev pub time_between : Option ℤ → Option ℤ → Option IntervalValue
time_between None None = None
time_between (Some start) end = Some (record { start = Some start; end = end })
time_between None (Some end) = Some (record { start = None; end = Some end })
