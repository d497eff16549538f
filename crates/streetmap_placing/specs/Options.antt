-- The placement that options give.
use Rattle.std.specs.Prelude.{◌≡◌, ◌^◌, pos, Option, Some, None}
use Rattle.streetmap_decimal.specs.declared.placement.Placement.{Placement}
use Rattle.streetmap_decimal.specs.declared.rounding.Rounding.{Rounding}
use Rattle.streetmap_decimal.specs.declared.rounding.Rounding.TheVariants.{Exact}
use Rattle.streetmap_decimal.specs.declared.scale.Scale.{Scale}
use Rattle.streetmap_decimal.specs.declared.shift.Shift.{Shift}

-- none of the options is given
abbrev pub IsNoneGiven : Option Scale → Option Shift → Rounding → Type 0
IsNoneGiven scale shift rounding = (scale ≡ None) × (shift ≡ None) × (rounding ≡ Exact)

-- the scale that is given, or one
abbrev pub IsScaleOf : Option Scale → Scale → Type 0
IsScaleOf (Some s) scale = scale ≡ s
IsScaleOf None scale = scale.count ≡ pos (10 ^ 9)

-- the shift that is given, or none
abbrev pub IsShiftOf : Option Shift → Shift → Type 0
IsShiftOf (Some s) shift = shift ≡ s
IsShiftOf None shift = (shift.easting ≡ pos 0) × (shift.northing ≡ pos 0)

-- the placement is present if an option is given
abbrev pub IsPlacementOf : Option Scale → Option Shift → Rounding → Option Placement → Type 0
IsPlacementOf scale shift rounding None = IsNoneGiven scale shift rounding
IsPlacementOf scale shift rounding (Some p) =
    (IsNoneGiven scale shift rounding → ⊥)
    × (IsScaleOf scale p.scale × IsShiftOf shift p.shift × (p.rounding ≡ rounding))
