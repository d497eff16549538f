-- The texts of intervals and of time properties: what may be written, how it is spelled, and what
-- it means.
use Rattle.std.specs.Prelude.{◌≡◌, ◌⊎◌, ℕ, ◌<ℤ◌, List, [], ◌∷◌, ◌++◌, Some, None, ℤ, pos, ◌+ℤ◌}
use Rattle.std.specs.Prelude.{◌-ℤ◌, ◌*ℤ◌, codes}
use Rattle.jiff_core.specs.Calendar.{days_from_civil}
use Rattle.streetmap_moment.specs.declared.faults.TimeFault.{TimeFault}
use Rattle.streetmap_moment.specs.declared.faults.TimeFault.TheVariants.{BadTime, EmptyInterval}
use Rattle.streetmap_moment.specs.DateTime.{DateTime, IsDateTime, IsDay, date_text, date_time_text}
use Rattle.streetmap_moment.specs.DateTime.{moment_meant}
use Rattle.streetmap_moment.specs.IntervalValue.{IntervalValue}

-- an open end: `..`, or nothing
pub data OpenEnd : Type 0 where
  Dots : OpenEnd
  Nothing : OpenEnd

-- OGC 17-069 7.15.4: `a`, `a/b`, `a/..` or `a/`, `../b` or `/b`
pub data IntervalText : Type 0 where
  Instant : DateTime → IntervalText
  Between : DateTime → DateTime → IntervalText
  Since : DateTime → OpenEnd → IntervalText
  Until : OpenEnd → DateTime → IntervalText

-- ---- spelling

-- `..`, or nothing
abbrev pub open_text : OpenEnd → List ℕ
open_text Dots = codes ".."
open_text Nothing = []

-- the ends have a slash between them
abbrev pub interval_text : IntervalText → List ℕ
interval_text (Instant a) = date_time_text a
interval_text (Between a b) = date_time_text a ++ 47 ∷ date_time_text b
interval_text (Since a open_end) = date_time_text a ++ 47 ∷ open_text open_end
interval_text (Until open_end b) = open_text open_end ++ 47 ∷ date_time_text b

-- ---- validity

-- each end that is given is a date-time
abbrev pub HasDateTimes : IntervalText → Type 0
HasDateTimes (Instant a) = IsDateTime a
HasDateTimes (Between a b) = IsDateTime a × IsDateTime b
HasDateTimes (Since a open_end) = IsDateTime a
HasDateTimes (Until open_end b) = IsDateTime b

-- ---- meaning

-- a moment is both ends of its interval
abbrev pub interval_meant : IntervalText → IntervalValue
interval_meant (Instant a) = record { start = Some (moment_meant a); end = Some (moment_meant a) }
interval_meant (Between a b) = record { start = Some (moment_meant a); end = Some (moment_meant b) }
interval_meant (Since a open_end) = record { start = Some (moment_meant a); end = None }
interval_meant (Until open_end b) = record { start = None; end = Some (moment_meant b) }

-- the text is an interval text that means i
abbrev pub IsIntervalText : List ℕ → IntervalValue → Type 0
IsIntervalText text i = (t : IntervalText) × HasDateTimes t × (text ≡ interval_text t)
    × (i ≡ interval_meant t)

-- from the first to the last nanosecond of a UTC day
abbrev pub day_interval : ℤ → IntervalValue
day_interval day = record {
  start = Some (day *ℤ pos 86_400_000_000_000);
  end = Some ((day +ℤ pos 1) *ℤ pos 86_400_000_000_000 -ℤ pos 1);
}

-- RFC 3339 5.6, full-date: the text is `YYYY-MM-DD`, and i is that UTC day
abbrev pub IsFullDateText : List ℕ → IntervalValue → Type 0
IsFullDateText text i =
    (y : ℕ) × (m : ℕ) × (d : ℕ) × IsDay y m d × (text ≡ date_text y m d)
    × (i ≡ day_interval (days_from_civil (pos y) m d))

-- the text of a time property: a full date or an interval text
abbrev pub IsPropertyText : List ℕ → IntervalValue → Type 0
IsPropertyText text i = IsFullDateText text i ⊎ IsIntervalText text i

-- ---- faults

-- the start is after the end
abbrev pub IsEmpty : IntervalValue → Type 0
IsEmpty i = (s : ℤ) × (e : ℤ) × (i.start ≡ Some s) × (i.end ≡ Some e) × (e <ℤ s)

-- why a text is refused: it means nothing, or an interval that starts after its end
abbrev pub IsFaultOf : (List ℕ → IntervalValue → Type 0) → List ℕ → TimeFault → Type 0
IsFaultOf Means text BadTime = (i : IntervalValue) → ¬ Means text i
IsFaultOf Means text EmptyInterval = (i : IntervalValue) × Means text i × IsEmpty i
