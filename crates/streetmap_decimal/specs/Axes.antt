-- The shift of each coordinate.
use Rattle.std.specs.Prelude.{ℤ, pos}
use Rattle.streetmap_decimal.specs.declared.axis.Axis.{Axis}
use Rattle.streetmap_decimal.specs.declared.axis.Axis.TheVariants.{Easting, Northing, Height}
use Rattle.streetmap_decimal.specs.declared.shift.Shift.{Shift}

-- a height is not shifted
abbrev pub shift_of : Axis → Shift → ℤ
shift_of Easting s = s.easting
shift_of Northing s = s.northing
shift_of Height s = pos 0
