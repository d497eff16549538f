-- The whole number of the grid that a coordinate gives.
use Rattle.std.specs.Prelude.{◌≡◌, ℕ, ◌<◌, ◌≤◌, ◌*◌, ◌^◌, List, ℤ, pos, ◌-ℤ◌, ◌*ℤ◌, unsigned_abs}
use Rattle.std.specs.Prelude.{Option, Some, None, Result, Ok, Err}
use Rattle.streetmap_grid.specs.Range.{IsCoordinate}
use Rattle.streetmap_decimal.specs.declared.fault.DecimalFault.{DecimalFault}
use Rattle.streetmap_decimal.specs.declared.fault.DecimalFault.TheVariants.{NotANumber}
use Rattle.streetmap_decimal.specs.declared.fault.DecimalFault.TheVariants.{TooManyDigits}
use Rattle.streetmap_decimal.specs.declared.fault.DecimalFault.TheVariants.{OutOfGrid, Fraction}
use Rattle.streetmap_decimal.specs.declared.rounding.Rounding.{Rounding}
use Rattle.streetmap_decimal.specs.declared.rounding.Rounding.TheVariants.{Exact, Nearest}
use Rattle.streetmap_decimal.specs.Decimal.{Then, ReadsDecimal, Counts, Encloses, coordinate_places}

-- (n - shift) * scale, counted in 10 ^ -27
abbrev pub placed : (shift scale n : ℤ) → ℤ
placed shift scale n = (n -ℤ shift) *ℤ scale

-- a whole one, counted in this unit
abbrev pub one : ℕ
one = 10 ^ 27

-- z, counted in 10 ^ -27, is the whole number g
abbrev pub IsWholeNumber : (z g : ℤ) → Type 0
IsWholeNumber z g = z ≡ g *ℤ pos one

-- g is at most a half away from z, which is counted in units of 1 / units, and if it is exactly a
-- half away, it is the one farther from zero
abbrev pub IsNearestOf : (units : ℕ) → (z g : ℤ) → Type 0
IsNearestOf units z g =
    (2 * unsigned_abs (g *ℤ pos units -ℤ z) ≤ units)
    × (2 * unsigned_abs (g *ℤ pos units -ℤ z) ≡ units
    → unsigned_abs z < unsigned_abs (g *ℤ pos units))

abbrev pub IsNearest : (z g : ℤ) → Type 0
IsNearest z g = IsNearestOf one z g

-- the nearest whole number is not a coordinate
abbrev pub IsBeyond : ℤ → Type 0
IsBeyond z = (g : ℤ) × (IsNearest z g × (IsCoordinate g → ⊥))

-- the nearest coordinate, if the nearest whole number is one
abbrev pub RoundsTo : ℤ → Option ℤ → Type 0
RoundsTo z (Some g) = IsNearest z g × IsCoordinate g
RoundsTo z None = IsBeyond z

-- z, counted in 10 ^ -27, is this coordinate, without a rest
abbrev pub IsExactCoordinate : ℤ → Result ℤ DecimalFault → Type 0
IsExactCoordinate z (Ok g) = RoundsTo z (Some g) × IsWholeNumber z g
IsExactCoordinate z (Err OutOfGrid) = IsBeyond z
IsExactCoordinate z (Err Fraction) = (g : ℤ) × (RoundsTo z (Some g) × (IsWholeNumber z g → ⊥))
IsExactCoordinate z (Err NotANumber) = ⊥
IsExactCoordinate z (Err TooManyDigits) = ⊥

-- the coordinate that the numbers on both sides give
abbrev pub Agrees : (y z : ℤ) → Result ℤ DecimalFault → Type 0
Agrees y z (Ok g) = RoundsTo y (Some g) × RoundsTo z (Some g)
Agrees y z (Err OutOfGrid) = IsBeyond y × IsBeyond z
Agrees y z (Err TooManyDigits) = (o : Option ℤ) → RoundsTo y o → RoundsTo z o → ⊥
Agrees y z (Err NotANumber) = ⊥
Agrees y z (Err Fraction) = ⊥

-- the number of the grid that m * 10 ^ e gives. If it is rounded, the whole counts on both sides of
-- it must give the same one
abbrev pub Places : (shift scale : ℤ) → Rounding → (m e : ℤ) → Result ℤ DecimalFault → Type 0
Places shift scale Exact m e =
    Then (Counts coordinate_places m e) (λ u. IsExactCoordinate (placed shift scale u))
Places shift scale Nearest m e =
    Then (Encloses coordinate_places m e)
    (λ s. Agrees (placed shift scale s.0) (placed shift scale s.1))

-- the number of the grid that a text gives
abbrev pub PlacesText : (shift scale : ℤ) → Rounding → List ℕ → Result ℤ DecimalFault → Type 0
PlacesText shift scale rounding text =
    Then (ReadsDecimal text) (λ d. Places shift scale rounding d.0 d.1)
