-- The texts of boxes: what may be written, how it is spelled, and what it means.
use Rattle.std.specs.Prelude.{◌≡◌, ℕ, ◌≤◌, Bool, true, false, IsTrue, List, [], ◌∷◌, ◌++◌, length}
use Rattle.std.specs.Prelude.{replicate, zero, suc, ℤ, pos, neg_ℤ}
use Rattle.std.specs.Str.{all_ascii_digits}
use Rattle.std.specs.Str.Parse.{digits_value}
use Rattle.streetmap_grid.specs.Values.{BoxValue}
use Rattle.streetmap_grid.specs.WellFormed.{IsBox}

-- a number as it is written: a minus or none, digits, and after a point this number of zeros; no
-- point without zeros
pub record NumberText : Type 0 where
  pub minus : Bool
  pub digits : List ℕ
  pub zeros : ℕ

-- it has 1 to 19 digits, all decimal
pub record HasFewDigits (n : NumberText) : Type 0 where
  pub decimal : IsTrue (all_ascii_digits n.digits)
  pub some : 1 ≤ length n.digits
  pub few : length n.digits ≤ 19

abbrev pub minus_spelled : Bool → List ℕ
minus_spelled true = 45 ∷ []
minus_spelled false = []

abbrev pub zeros_spelled : ℕ → List ℕ
zeros_spelled zero = []
zeros_spelled (suc k) = 46 ∷ replicate (suc k) 48

abbrev pub number_spelled : NumberText → List ℕ
number_spelled n = minus_spelled n.minus ++ (n.digits ++ zeros_spelled n.zeros)

abbrev pub signed : Bool → ℕ → ℤ
signed true n = neg_ℤ (pos n)
signed false n = pos n

-- the number that the digits write, with its sign
abbrev pub number_meant : NumberText → ℤ
number_meant n = signed n.minus (digits_value 10 n.digits)

-- OGC 17-069, 7.15.3: four numbers with commas between them, which are the bounds of a box
pub record IsBoxText (text : List ℕ) (b : BoxValue) : Type 0 where
  pub x0 : NumberText
  pub y0 : NumberText
  pub x1 : NumberText
  pub y1 : NumberText
  pub x0_is : HasFewDigits x0
  pub y0_is : HasFewDigits y0
  pub x1_is : HasFewDigits x1
  pub y1_is : HasFewDigits y1
  pub spelled : text ≡ number_spelled x0 ++ 44
      ∷ (number_spelled y0 ++ 44 ∷ (number_spelled x1 ++ 44 ∷ number_spelled y1))
  pub meant : b ≡ record {
    x0 = number_meant x0;
    y0 = number_meant y0;
    x1 = number_meant x1;
    y1
        = number_meant y1;
  }
  pub kept : IsBox b
