-- The texts of the options: a scale, and a shift.
use Rattle.std.specs.Prelude.{ℕ, ◌<◌, ◌^◌, List, Bool, ◌==◌, ℤ, pos, ◌<ℤ◌, unsigned_abs, Ok}
use Rattle.std.specs.Prelude.{Option, Some, None}
use Rattle.std.specs.List.{before_first, after_first}
use Rattle.streetmap_decimal.specs.Decimal.{ReadsCount, coordinate_places, scale_places}

-- the counts of options are smaller than this
abbrev pub option_limit : ℕ
option_limit = 10 ^ 36

-- the text is a number that is u times 10 ^ -places, and u is below the limit
abbrev pub IsOptionCount : (places : ℕ) → List ℕ → ℤ → Type 0
IsOptionCount places text u =
    ReadsCount places text (Ok u) × (unsigned_abs u < option_limit)

-- the text is read as an option's count, or is not one
abbrev pub ReadsOption : (places : ℕ) → List ℕ → Option ℤ → Type 0
ReadsOption places text (Some u) = IsOptionCount places text u
ReadsOption places text None = (u : ℤ) → IsOptionCount places text u → ⊥

-- the text is a number that is s times 10 ^ -9, above 0 and below 10 ^ 27
abbrev pub IsScale : List ℕ → ℤ → Type 0
IsScale text s = IsOptionCount scale_places text s × (pos 0 <ℤ s)

-- a comma is 44
abbrev pub is_comma : ℕ → Bool
is_comma b = b == 44

-- before its first comma the text is a number that is x times 10 ^ -18, and after it one that is y
-- times 10 ^ -18, both below 10 ^ 18
abbrev pub IsShift : List ℕ → ℤ → ℤ → Type 0
IsShift text x y =
    IsOptionCount coordinate_places (before_first is_comma text) x
    × IsOptionCount coordinate_places (after_first is_comma text) y
