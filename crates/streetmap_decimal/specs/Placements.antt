-- The number of the grid that a text gives, as a function of it: `PlacesText` says which it is.
use Rattle.std.specs.Prelude.{ℕ, suc, ◌+◌, ◌*◌, ◌/◌, ◌%◌, ◌^◌, ◌==◌, nat_lt, nat_le, List, length}
use Rattle.std.specs.Prelude.{ℤ, pos, negsuc, ◌+ℤ◌, unsigned_abs, Option, Some, None, Result, Ok}
use Rattle.std.specs.Prelude.{Err}
use Rattle.std.specs.Prelude.{if◌then◌else◌}
use Rattle.std.specs.Option.{ok_or, option_eq}
use Rattle.std.specs.Ordering.{int_eq}
use Rattle.streetmap_decimal.specs.Decimal.{max_len, coordinate_places, count_limit, with_sign_of}
use Rattle.streetmap_decimal.specs.Grid.{placed, one}
use Rattle.streetmap_decimal.specs.NumberText.{NumberComponents, mantissa, exponent}
use Rattle.streetmap_decimal.specs.NumberParts.{components_of}
use Rattle.streetmap_decimal.specs.declared.fault.DecimalFault.{DecimalFault}
use Rattle.streetmap_decimal.specs.declared.fault.DecimalFault.TheVariants.{NotANumber}
use Rattle.streetmap_decimal.specs.declared.fault.DecimalFault.TheVariants.{TooManyDigits}
use Rattle.streetmap_decimal.specs.declared.fault.DecimalFault.TheVariants.{OutOfGrid, Fraction}
use Rattle.streetmap_decimal.specs.declared.rounding.Rounding.{Rounding}
use Rattle.streetmap_decimal.specs.declared.rounding.Rounding.TheVariants.{Exact, Nearest}

-- a step and the next, which continues with the result of the first; the first fault ends both
infixl 10 ◌>>=◌
abbrev pub ◌>>=◌ : {A B : Type 0} → Result A DecimalFault → (A → Result B DecimalFault)
    → Result B DecimalFault
(Ok a) >>= next = next a
(Err f) >>= next = Err f

-- ---- a text

-- the mantissa and the exponent of a number
abbrev pub decimal_of : Option NumberComponents → Result (ℤ × ℤ) DecimalFault
decimal_of None = Err NotANumber
decimal_of (Some n) = Ok (mantissa n, exponent n)

-- of a number text that is not too long
abbrev pub read_decimal : List ℕ → Result (ℤ × ℤ) DecimalFault
read_decimal text =
    if nat_lt max_len (length text) then Err TooManyDigits else decimal_of (components_of text)

-- ---- a count

abbrev pub limited : ℕ → Result ℕ DecimalFault
limited u = if nat_lt u count_limit then Ok u else Err OutOfGrid

-- n * 10 ^ k, if that is a whole number
abbrev pub shifted : (n : ℕ) → (k : ℤ) → Result ℕ DecimalFault
shifted n (pos k) = limited (n * 10 ^ k)
shifted n (negsuc k) =
    if (n % 10 ^ suc k) == 0 then limited (n / 10 ^ suc k) else Err TooManyDigits

-- m * 10 ^ e as a count of 10 ^ -places
abbrev pub count_of : (places : ℕ) → (m e : ℤ) → Result ℤ DecimalFault
count_of places m e =
    shifted (unsigned_abs m) (e +ℤ pos places) >>= λ u. Ok (with_sign_of m u)

-- the smallest whole number that is no smaller than n / p
abbrev pub ceiling : (n p : ℕ) → ℕ
ceiling n p = if (n % p) == 0 then n / p else n / p + 1

-- the whole numbers on both sides of n * 10 ^ k, the lower first
abbrev pub sides_of : (n : ℕ) → (k : ℤ) → Result (ℕ × ℕ) DecimalFault
sides_of n (pos k) = limited (n * 10 ^ k) >>= λ u. Ok (u, u)
sides_of n (negsuc k) = limited (n / 10 ^ suc k) >>= λ u. Ok (u, ceiling n (10 ^ suc k))

-- the whole counts on both sides of m * 10 ^ e
abbrev pub counts_around : (places : ℕ) → (m e : ℤ) → Result (ℤ × ℤ) DecimalFault
counts_around places m e =
    sides_of (unsigned_abs m) (e +ℤ pos places) >>= λ s.
    Ok (with_sign_of m s.0, with_sign_of m s.1)

-- ---- the grid

-- the nearest whole number to n, counted in 10 ^ -27, upwards from a half
abbrev pub nearest_of : ℕ → ℕ
nearest_of n = (n + 500_000_000_000_000_000_000_000_000) / one

-- the coordinate that z is nearest to, half away from zero
abbrev pub coordinate_at : ℤ → Option ℤ
coordinate_at z =
    if nat_le (nearest_of (unsigned_abs z)) 1_000_000_000
    then Some (with_sign_of z (nearest_of (unsigned_abs z))) else None

-- if the rest is 0
abbrev pub whole_coordinate : (rest : ℕ) → Option ℤ → Result ℤ DecimalFault
whole_coordinate rest None = Err OutOfGrid
whole_coordinate rest (Some g) = if rest == 0 then Ok g else Err Fraction

-- if both sides give the same
abbrev pub agreed : (near far : Option ℤ) → Result ℤ DecimalFault
agreed near far = if option_eq int_eq far near then ok_or near OutOfGrid else Err TooManyDigits

-- the number of the grid that m * 10 ^ e gives
abbrev pub placed_decimal : (shift scale : ℤ) → Rounding → (m e : ℤ) → Result ℤ DecimalFault
placed_decimal shift scale Exact m e =
    count_of coordinate_places m e >>= λ u.
    whole_coordinate (unsigned_abs (placed shift scale u) % one)
    (coordinate_at (placed shift scale u))
placed_decimal shift scale Nearest m e =
    counts_around coordinate_places m e >>= λ s.
    agreed (coordinate_at (placed shift scale s.0)) (coordinate_at (placed shift scale s.1))

-- the number that a text gives
abbrev pub placed_text : (shift scale : ℤ) → Rounding → List ℕ → Result ℤ DecimalFault
placed_text shift scale rounding text =
    read_decimal text >>= λ d. placed_decimal shift scale rounding d.0 d.1
