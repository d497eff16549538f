-- Reading date-times: what is at the front of a text, and the bytes after it.
use Rattle.std.specs.Prelude.{ℕ, ◌+◌, ◌-◌, ◌*◌, ◌/◌, Bool, ◌&&◌, ◌||◌, ◌==◌, nat_lt, nat_le, List}
use Rattle.std.specs.Prelude.{[], ◌∷◌, Option, Some, None, option_map, option_and_then}
use Rattle.std.specs.Prelude.{if◌then◌else◌, ℤ, pos, neg_ℤ}
use Rattle.std.specs.Borrow.{Bor}
use Rattle.std.specs.Char.{is_ascii_digit}
use Rattle.streetmap_moment.specs.DateTime.{nanoseconds}
use Rattle.jiff_core.specs.Calendar.{days_in_month, days_from_civil}

-- the second step, if the first gave a value
infixl 10 ◌>>=◌
abbrev pub ◌>>=◌ : {A B : Type 0} → Option A → (A → Option B) → Option B
o >>= f = option_and_then f o

-- the result of a reader in the code, as lists
abbrev pub read_view : {A : Type 0} → Option (A × Bor (List ℕ)) → Option (A × List ℕ)
read_view r = option_map (λ x. (x.0, x.1.now)) r

-- a decimal digit
unfoldable pub digit_at : List ℕ → Option (ℕ × List ℕ)
digit_at [] = None
digit_at (b ∷ rest) = if is_ascii_digit b then Some (b - 48, rest) else None

-- the number of two digits
unfoldable pub two_digits_at : List ℕ → Option (ℕ × List ℕ)
two_digits_at text = do
  tens ← digit_at text
  ones ← digit_at tens.1
  Some (10 * tens.0 + ones.0, ones.1)

-- the number of four digits
unfoldable pub four_digits_at : List ℕ → Option (ℕ × List ℕ)
four_digits_at text = do
  high ← two_digits_at text
  low ← two_digits_at high.1
  Some (100 * high.0 + low.0, low.1)

-- two digits whose number is below the limit
unfoldable pub below_at : ℕ → List ℕ → Option (ℕ × List ℕ)
below_at limit text = do
  n ← two_digits_at text
  if nat_lt n.0 limit then Some n else None

-- what follows one of two marks
unfoldable pub mark_at : ℕ → ℕ → List ℕ → Option (List ℕ)
mark_at mark other [] = None
mark_at mark other (b ∷ rest) = if (b == mark) || (b == other) then Some rest else None

-- the calendar has this day
abbrev pub is_date : ℕ → ℕ → ℕ → Bool
is_date y m d = nat_le 1 m && nat_le m 12 && nat_le 1 d && nat_le d (days_in_month (pos y) m)

-- the day number from 1970-01-01 of a day that the calendar has
unfoldable pub day_of : ℕ → ℕ → ℕ → Option ℤ
day_of y m d = if is_date y m d then Some (days_from_civil (pos y) m d) else None

-- the day number of `YYYY-MM-DD`
unfoldable pub date_at : List ℕ → Option (ℤ × List ℕ)
date_at text = do
  year ← four_digits_at text
  after_year ← mark_at 45 45 year.1
  month ← two_digits_at after_year
  after_month ← mark_at 45 45 month.1
  day ← two_digits_at after_month
  number ← day_of year.0 month.0 day.0
  Some (number, day.1)

-- the seconds of `hh:mm:ss`
unfoldable pub clock_at : List ℕ → Option (ℕ × List ℕ)
clock_at text = do
  hour ← below_at 24 text
  after_hour ← mark_at 58 58 hour.1
  minute ← below_at 60 after_hour
  after_minute ← mark_at 58 58 minute.1
  second ← below_at 60 after_minute
  Some (hour.0 * 3600 + minute.0 * 60 + second.0, second.1)

-- the nanoseconds of the digits at the front, of which the first counts `unit`; at most nine
unfoldable pub digits_at : ℕ → List ℕ → Option (ℕ × List ℕ)
digits_at unit [] = Some (0, [])
digits_at unit (b ∷ rest) =
    if is_ascii_digit b then (if unit == 0 then None
    else (digits_at (unit / 10) rest >>= λ x. Some ((b - 48) * unit + x.0, x.1)))
    else Some (0, b ∷ rest)

-- a point and one to nine digits, or nothing
unfoldable pub fraction_at : List ℕ → Option (ℕ × List ℕ)
fraction_at [] = Some (0, [])
fraction_at (b ∷ rest) =
    if b == 46 then (digit_at rest >>= λ x. digits_at 10_000_000 x.1 >>= λ y.
    Some (x.0 * 100_000_000 + y.0, y.1))
    else Some (0, b ∷ rest)

-- nothing is left
abbrev pub ended : {A : Type 0} → A × List ℕ → Option A
ended (x, []) = Some x
ended (x, b ∷ rest) = None

-- the seconds of `hh:mm`, which ends the text
unfoldable pub hours_of : List ℕ → Option ℕ
hours_of text = do
  hour ← below_at 24 text
  after_hour ← mark_at 58 58 hour.1
  minute ← below_at 60 after_hour
  ended (hour.0 * 3600 + minute.0 * 60, minute.1)

-- the seconds of the offset that ends the text
unfoldable pub offset_of : List ℕ → Option ℤ
offset_of [] = None
offset_of (b ∷ rest) =
    if (b == 90) || (b == 122) then ended (pos 0, rest)
    else (if (b == 43) || (b == 32) then option_map pos (hours_of rest)
    else (if b == 45 then option_map (λ n. neg_ℤ (pos n)) (hours_of rest) else None))

-- the moment of a whole text
unfoldable pub moment_of : List ℕ → Option ℤ
moment_of text = do
  day ← date_at text
  after_date ← mark_at 84 116 day.1
  clock ← clock_at after_date
  fraction ← fraction_at clock.1
  offset ← offset_of fraction.1
  Some (nanoseconds day.0 clock.0 fraction.0 offset)
