-- The ranges that the calendar gives: the years 0000 to 9999 of RFC 3339.
use Rattle.std.specs.Prelude.{ℤ, pos, neg_ℤ, ◌≤ℤ◌}

-- from 0000-01-01T00:00:00+23:59 to 9999-12-31T23:59:59.999999999-23:59, in nanoseconds since
-- 1970-01-01T00:00:00Z
abbrev pub IsMoment : ℤ → Type 0
IsMoment n = (neg_ℤ (pos 62_167_305_540_000_000_000) ≤ℤ n) × (n ≤ℤ pos 253_402_387_139_999_999_999)

-- from 0000-01-01 to 9999-12-31, in days since 1970-01-01
abbrev pub IsDayNumber : ℤ → Type 0
IsDayNumber n = (neg_ℤ (pos 719_528) ≤ℤ n) × (n ≤ℤ pos 2_932_896)

-- from -23:59 to +23:59, in seconds
abbrev pub IsOffsetSeconds : ℤ → Type 0
IsOffsetSeconds n = (neg_ℤ (pos 86_340) ≤ℤ n) × (n ≤ℤ pos 86_340)
