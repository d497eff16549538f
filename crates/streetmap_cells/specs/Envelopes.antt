-- Boxes of the grid in whole numbers from 0.
use Rattle.std.specs.Prelude.{ℕ, ◌≡◌, ℤ, pos, ◌+ℤ◌, Bool, ◌&&◌, nat_le}
use Rattle.streetmap_grid.specs.Values.{BoxValue}
use Rattle.streetmap_cells.specs.declared.envelope.Envelope.{Envelope}

-- a bound, counted from the south-western corner of the grid
abbrev pub IsFromCorner : ℕ → ℤ → Type 0
IsFromCorner n bound = pos n ≡ bound +ℤ pos 2147483648

-- the same box, counted from that corner
pub record IsEnvelopeOf (e : Envelope) (box : BoxValue) : Type 0 where
  pub west : IsFromCorner e.x0 box.x0
  pub south : IsFromCorner e.y0 box.y0
  pub east : IsFromCorner e.x1 box.x1
  pub north : IsFromCorner e.y1 box.y1

-- neither ends before the other begins, in either direction
abbrev pub overlaps : Envelope → Envelope → Bool
overlaps a b = nat_le a.x0 b.x1 && (nat_le b.x0 a.x1 && (nat_le a.y0 b.y1 && nat_le b.y0 a.y1))
