-- The calendar day of three numbers.
use Rattle.std.proofs.Common.{◌≡◌, ℕ, zero, suc, ◌≤◌, pos, ℤ, Some, refl, arith}
use Rattle.std.proofs.lemmas.Grind.{common_steps}
use Rattle.jiff_core.specs.Calendar.{days_from_civil, days_in_month, day_count, days_of_years, days_of_months, IsCivilDate}
use Rattle.jiff_core.proofs.CalendarLemmas.{days_from_civil-day_count, day_count_bounds, day_count-day_of_year, day_count-later_year}
use Rattle.jiff_core.proofs.SignedLemmas.{signed_arith}
use Rattle.streetmap_moment.specs.Range.{IsDayNumber}
use Rattle.streetmap_moment.specs.DateTimeParts.{day_of}

-- a day of the calendar is read as its number
pub day_is : (y m d : ℕ) (year : ℤ) (month day : ℕ) → year ≡ pos y → month ≡ m → day ≡ d → 1 ≤ month → month ≤ 12 → 1 ≤ day → day ≤ days_in_month year month → Some (days_from_civil year month day) ≡ day_of y m d
unfolding day_of
day_is y m d year month day ey em ed a b e f = grind (arith, common_steps)

first_year : day_count (pos 0) 1 1 ≡ 3_652_425
unfolding day_count days_of_years days_of_months
first_year = refl

-- no year of the calendar begins before the year 0
year_from : (y : ℕ) → 3_652_425 ≤ day_count (pos y) 1 1
year_from zero = omega (arith, first_year)
year_from (suc y) = omega (arith, signed_arith, first_year, day_count-later_year (pos 0) (pos (suc y)) (omega (arith, signed_arith)) (omega (arith, signed_arith)))

-- the days of the years 0000 to 9999
pub day_in_range : (y : ℕ) (year : ℤ) (m d : ℕ) → year ≡ pos y → IsCivilDate year m d → IsDayNumber (days_from_civil year m d)
day_in_range y year m d e h =
    let from : 3_652_425 ≤ day_count year 1 1 = rw e (year_from y) in
    let later = day_count-day_of_year year m d h.2.0 in
    let bounds = day_count_bounds year m d h in
    (omega (arith, signed_arith, days_from_civil-day_count year m d), omega (arith, signed_arith, days_from_civil-day_count year m d))
