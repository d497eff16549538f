-- The texts of date-times (RFC 3339 5.6): what may be written, how it is spelled, and what it
-- means.
use Rattle.std.specs.Prelude.{◌≡◌, ◌⊎◌, ℕ, ◌+◌, ◌*◌, ◌/◌, ◌%◌, ◌<◌, ◌≤◌, List, [], ◌∷◌, ◌++◌}
use Rattle.std.specs.Prelude.{length, map, ℤ, pos, neg_ℤ, ◌+ℤ◌, ◌-ℤ◌, ◌*ℤ◌}
use Rattle.std.specs.List.{AllByRecursion}
use Rattle.jiff_core.specs.Calendar.{days_in_month, days_from_civil}

-- RFC 3339 4.2, time-offset: `Z`, `z`, or a sign with hours and minutes, in which a space
-- represents `+`
pub data Offset : Type 0 where
  Zulu : Offset
  SmallZulu : Offset
  East : ℕ → ℕ → Offset
  Spaced : ℕ → ℕ → Offset
  West : ℕ → ℕ → Offset

-- RFC 3339 5.6, date-time: its fields. The separator is a byte; the fraction is the list of its
-- digits, empty without a point
pub record DateTime : Type 0 where
  pub year : ℕ
  pub month : ℕ
  pub day : ℕ
  pub separator : ℕ
  pub hour : ℕ
  pub minute : ℕ
  pub second : ℕ
  pub fraction : List ℕ
  pub offset : Offset

-- ---- spelling

-- two decimal digits
abbrev pub two_digits : ℕ → List ℕ
two_digits n = (48 + n / 10) ∷ (48 + n % 10) ∷ []

-- four decimal digits
abbrev pub four_digits : ℕ → List ℕ
four_digits n = two_digits (n / 100) ++ two_digits (n % 100)

-- `hh:mm`
abbrev pub hour_and_minute : ℕ → ℕ → List ℕ
hour_and_minute h m = two_digits h ++ 58 ∷ two_digits m

-- `Z`, `z`, `+hh:mm`, ` hh:mm` or `-hh:mm`
abbrev pub offset_text : Offset → List ℕ
offset_text Zulu = 90 ∷ []
offset_text SmallZulu = 122 ∷ []
offset_text (East h m) = 43 ∷ hour_and_minute h m
offset_text (Spaced h m) = 32 ∷ hour_and_minute h m
offset_text (West h m) = 45 ∷ hour_and_minute h m

-- RFC 3339 5.6, time-secfrac: a point and the digits, or nothing
abbrev pub fraction_text : List ℕ → List ℕ
fraction_text [] = []
fraction_text (d ∷ digits) = 46 ∷ map (λ n. 48 + n) (d ∷ digits)

-- RFC 3339 5.6, full-date: `YYYY-MM-DD`
abbrev pub date_text : ℕ → ℕ → ℕ → List ℕ
date_text y m d = four_digits y ++ 45 ∷ two_digits m ++ 45 ∷ two_digits d

-- `hh:mm:ss`
abbrev pub clock_text : ℕ → ℕ → ℕ → List ℕ
clock_text h m s = two_digits h ++ 58 ∷ two_digits m ++ 58 ∷ two_digits s

-- the date, the separator, the time of day, the fraction and the offset
abbrev pub date_time_text : DateTime → List ℕ
date_time_text t =
    date_text t.year t.month t.day ++ t.separator ∷ clock_text t.hour t.minute t.second
    ++ fraction_text t.fraction ++ offset_text t.offset

-- ---- validity

-- RFC 3339 5.7 and appendix C: the Gregorian calendar has the day, in the years 0000 to 9999
pub record IsDay (y m d : ℕ) : Type 0 where
  pub year : y < 10_000
  pub month_from : 1 ≤ m
  pub month_to : m ≤ 12
  pub day_from : 1 ≤ d
  pub day_to : d ≤ days_in_month (pos y) m

-- hours to 23 and minutes to 59
abbrev pub IsOffset : Offset → Type 0
IsOffset Zulu = Unit {0}
IsOffset SmallZulu = Unit {0}
IsOffset (East h m) = (h < 24) × (m < 60)
IsOffset (Spaced h m) = (h < 24) × (m < 60)
IsOffset (West h m) = (h < 24) × (m < 60)

-- a day of the calendar, `T` or `t`, a time of day without second 60, and at most nine digits of
-- fraction
pub record IsDateTime (t : DateTime) : Type 0 where
  pub date : IsDay t.year t.month t.day
  pub separator : (t.separator ≡ 84) ⊎ (t.separator ≡ 116)
  pub hour : t.hour < 24
  pub minute : t.minute < 60
  pub second : t.second < 60
  pub digits : AllByRecursion (λ d. d < 10) t.fraction
  pub at_most_nine : length t.fraction ≤ 9
  pub offset : IsOffset t.offset

-- ---- meaning

-- the seconds by which local time is ahead of UTC
abbrev pub offset_seconds : Offset → ℤ
offset_seconds Zulu = pos 0
offset_seconds SmallZulu = pos 0
offset_seconds (East h m) = pos (h * 3600 + m * 60)
offset_seconds (Spaced h m) = pos (h * 3600 + m * 60)
offset_seconds (West h m) = neg_ℤ (pos (h * 3600 + m * 60))

-- the nanoseconds of digits of which the first counts `unit`
abbrev pub fraction_meant : ℕ → List ℕ → ℕ
fraction_meant unit [] = 0
fraction_meant unit (d ∷ digits) = d * unit + fraction_meant (unit / 10) digits

-- the nanoseconds since 1970-01-01T00:00:00Z, of a day number, the seconds of the day, the
-- nanoseconds of the second and an offset in seconds
abbrev pub nanoseconds : ℤ → ℕ → ℕ → ℤ → ℤ
nanoseconds day clock fraction offset =
    (day *ℤ pos 86_400 +ℤ pos clock -ℤ offset) *ℤ pos 1_000_000_000 +ℤ pos fraction

-- the moment that a date-time means
abbrev pub moment_meant : DateTime → ℤ
moment_meant t =
    nanoseconds (days_from_civil (pos t.year) t.month t.day) (t.hour * 3600 + t.minute * 60
    + t.second)
    (fraction_meant 100_000_000 t.fraction) (offset_seconds t.offset)

-- the text is a date-time that means n
abbrev pub IsMomentText : List ℕ → ℤ → Type 0
IsMomentText text n = (t : DateTime) × IsDateTime t × (text ≡ date_time_text t)
    × (n ≡ moment_meant t)
