-- Which numbers are coordinates, and which are bounds of a box, in millimetres.
use Rattle.std.specs.Prelude.{ℤ, pos, negsuc, ◌≤ℤ◌, Bool, ◌&&◌, int_le}

-- from -1,000,000,000 to 1,000,000,000
abbrev pub IsCoordinate : ℤ → Type 0
IsCoordinate n = (negsuc 999999999 ≤ℤ n) × (n ≤ℤ pos 1000000000)

-- from -2,000,000,000 to 2,000,000,000
abbrev pub IsBound : ℤ → Type 0
IsBound n = (negsuc 1999999999 ≤ℤ n) × (n ≤ℤ pos 2000000000)

-- the same, as a test
abbrev pub is_coordinate : ℤ → Bool
is_coordinate n = int_le (negsuc 999999999) n && int_le n (pos 1000000000)

-- the same, as a test
abbrev pub is_bound : ℤ → Bool
is_bound n = int_le (negsuc 1999999999) n && int_le n (pos 2000000000)
