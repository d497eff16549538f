-- One axis of a segment, reflected so that it starts at 0 and does not fall, and the box beside it.
use Rattle.std.specs.Prelude.{ℤ, pos, ◌*ℤ◌, ◌≤ℤ◌}

-- what lies p/q of the way from 0 along lies between near and far
abbrev pub IsReachedAt : (p q near far along : ℤ) → Type 0
IsReachedAt p q near far along = ((q *ℤ near) ≤ℤ (p *ℤ along)) × ((p *ℤ along) ≤ℤ (q *ℤ far))

-- on each axis the box begins before the segment ends and ends after it begins, and two corners of
-- the box lie on the two sides of the line
abbrev pub AreBothReached : (near far along near' far' along' : ℤ) → Type 0
AreBothReached near far along near' far' along' =
    (pos 0 ≤ℤ far)
    × (near ≤ℤ along)
    × (pos 0 ≤ℤ far')
    × (near' ≤ℤ along')
    × ((near *ℤ along') ≤ℤ (far' *ℤ along))
    × ((near' *ℤ along) ≤ℤ (far *ℤ along'))
