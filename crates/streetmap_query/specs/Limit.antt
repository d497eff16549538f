-- Limits of pages.
use Rattle.std.specs.Prelude.{ℕ, ◌≤◌, ◌&&◌, nat_lt, min, List, length, Option, Some, None}
use Rattle.std.specs.Prelude.{if◌then◌else◌}
use Rattle.std.specs.Str.{all_ascii_digits}
use Rattle.std.specs.Str.Parse.{digits_value}

-- the limit of a query that gives none
abbrev pub default_limit : ℕ
default_limit = 10

-- the greatest number of features on a page
abbrev pub greatest_limit : ℕ
greatest_limit = 1000

-- the limit of a page
abbrev pub IsLimit : ℕ → Type 0
IsLimit n = (1 ≤ n) × (n ≤ greatest_limit)

-- OGC 17-069, 7.15.2: one or more digits, any number of them, that write a number from 1; above
-- 1000 it is 1000
abbrev pub limit_of : List ℕ → Option ℕ
limit_of text =
    if nat_lt 0 (length text) && all_ascii_digits text && nat_lt 0 (digits_value 10 text)
    then Some (min (digits_value 10 text) greatest_limit)
    else None
