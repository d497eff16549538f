-- Reading the texts of intervals and of time properties.
use Rattle.std.specs.Prelude.{ℕ, Bool, Option, Some, None, Result, Ok, Err, ℤ, List, length, ◌==◌}
use Rattle.std.specs.Prelude.{◌||◌, option_map, codes, if◌then◌else◌}
use Rattle.std.specs.Str.{bytes_eq}
use Rattle.std.specs.List.{position_or_len, before_first, after_first}
use Rattle.streetmap_moment.specs.declared.faults.TimeFault.{TimeFault}
use Rattle.streetmap_moment.specs.declared.faults.TimeFault.TheVariants.{BadTime, EmptyInterval}
use Rattle.streetmap_moment.specs.IntervalText.{day_interval}
use Rattle.streetmap_moment.specs.IntervalValue.{IntervalValue, starts_after}
use Rattle.streetmap_moment.specs.DateTimeParts.{date_at, ended, moment_of, ◌>>=◌}

-- the byte is a slash
abbrev pub is_slash : ℕ → Bool
is_slash b = b == 47

-- an end: open if the text is empty or `..`
abbrev pub end_of : List ℕ → Option (Option ℤ)
end_of text = if (length text == 0) || bytes_eq text (codes "..") then Some None
    else option_map Some (moment_of text)

-- two ends, at least one of which must be given
abbrev pub bounded : Option ℤ → Option ℤ → Option IntervalValue
bounded None None = None
bounded start end = Some (record { start = start; end = end })

-- a moment that is both ends, or two ends with a slash between them
unfoldable pub ends_of : List ℕ → Option IntervalValue
ends_of text =
    if position_or_len is_slash text == length text
    then (moment_of text >>= λ m. Some (record { start = Some m; end = Some m }))
    else (end_of (before_first is_slash text) >>= λ start.
    end_of (after_first is_slash text) >>= λ end. bounded start end)

-- the ends, unless they are missing or the start is after the end
abbrev pub ordered_ends : Option IntervalValue → Result IntervalValue TimeFault
ordered_ends None = Err BadTime
ordered_ends (Some i) = if starts_after i.start i.end then Err EmptyInterval else Ok i

-- the interval of an interval text, or why it has none
abbrev pub interval_of : List ℕ → Result IntervalValue TimeFault
interval_of text = ordered_ends (ends_of text)

-- the day number of a whole text that is a full date
unfoldable pub full_date_of : List ℕ → Option ℤ
full_date_of text = date_at text >>= ended

-- a full date, or otherwise an interval text
abbrev pub date_or_interval : Option ℤ → Result IntervalValue TimeFault
    → Result IntervalValue TimeFault
date_or_interval None other = other
date_or_interval (Some day) other = Ok (day_interval day)

-- the interval of the text of a time property, or why it has none
abbrev pub property_of : List ℕ → Result IntervalValue TimeFault
property_of text = date_or_interval (full_date_of text) (interval_of text)
