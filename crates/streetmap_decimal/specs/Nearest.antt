-- The nearest whole number to the exact value of a text.
use Rattle.std.specs.Prelude.{ℕ, ◌+◌, ◌*◌, ◌^◌, List, ℤ, pos, ◌-ℤ◌, ◌*ℤ◌}
use Rattle.streetmap_grid.specs.Range.{IsCoordinate}
use Rattle.streetmap_decimal.specs.NumberText.{Means}
use Rattle.streetmap_decimal.specs.Decimal.{IsCount, coordinate_places}
use Rattle.streetmap_decimal.specs.Grid.{IsNearestOf, one}

-- g is the nearest whole number to (m * 10 ^ e - shift) * scale: counted in enough additional
-- places that m * 10 ^ e is a whole count
abbrev pub IsNearestTo : (shift scale m e g : ℤ) → Type 0
IsNearestTo shift scale m e g =
    (more : ℕ) × ((u : ℤ) × (IsCount (coordinate_places + more) m e u
    × IsNearestOf (one * 10 ^ more) ((u -ℤ shift *ℤ pos (10 ^ more)) *ℤ scale) g))

-- the text is a number, and g the nearest whole number to its exact value in the grid
abbrev pub IsNearestToText : (shift scale : ℤ) → List ℕ → ℤ → Type 0
IsNearestToText shift scale text g =
    (m : ℤ) × ((e : ℤ) × (Means text m e × IsNearestTo shift scale m e g))

-- the nearest whole number to the exact value of the text in the grid is not a coordinate
abbrev pub IsOffGrid : (shift scale : ℤ) → List ℕ → Type 0
IsOffGrid shift scale text =
    (g : ℤ) → IsNearestToText shift scale text g → IsCoordinate g → ⊥
