-- The values of the code as plain numbers.
use Rattle.std.specs.Prelude.{List, ℕ, ℤ, Result, Ok, Err, Option, None, Some}
use Rattle.streetmap_decimal.specs.declared.decimal.Decimal.{Decimal}
use Rattle.streetmap_decimal.specs.declared.scale.Scale.{Scale}
use Rattle.streetmap_decimal.specs.declared.shift.Shift.{Shift}
use Rattle.streetmap_decimal.specs.declared.fault.DecimalFault.{DecimalFault}
use Rattle.streetmap_decimal.specs.Options.{IsScale, IsShift}

-- a mantissa and an exponent
abbrev pub decimal_view : Result Decimal DecimalFault → Result (ℤ × ℤ) DecimalFault
decimal_view (Ok d) = Ok (d.mantissa, d.exponent)
decimal_view (Err f) = Err f

-- the text is read as a scale, or is not one
abbrev pub ReadsScale : List ℕ → Option Scale → Type 0
ReadsScale text (Some scale) = IsScale text scale.count
ReadsScale text None = (s : ℤ) → IsScale text s → ⊥

-- the text is read as a shift, or is not one
abbrev pub ReadsShift : List ℕ → Option Shift → Type 0
ReadsShift text (Some shift) = IsShift text shift.easting shift.northing
ReadsShift text None = (x y : ℤ) → IsShift text x y → ⊥
