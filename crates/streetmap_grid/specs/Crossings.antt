-- What lies inside of rings, by the even-odd rule.
use Rattle.std.specs.Prelude.{ℕ, ◌%◌, ◌≡◌, ◌==◌, ℤ, pos, ◌-ℤ◌, ◌*ℤ◌, Bool, not, ◌&&◌, int_lt, List}
use Rattle.std.specs.Prelude.{if◌then◌else◌}
use Rattle.std.specs.List.{count_by, sum_by}
use Rattle.streetmap_grid.specs.Values.{PositionValue}
use Rattle.streetmap_grid.specs.Edges.{edges}

-- the northing of a position is greater than y
abbrev pub is_above : (y : ℤ) → PositionValue → Bool
is_above y p = int_lt y p.y

-- twice the area of the triangle from u to v to (x, y): above zero if (x, y) lies left of the line
-- from u to v, below zero if right of it
abbrev pub side : (u v : PositionValue) → (x y : ℤ) → ℤ
side u v x y = (v.x -ℤ u.x) *ℤ (y -ℤ u.y) -ℤ (x -ℤ u.x) *ℤ (v.y -ℤ u.y)

-- exactly one end of the edge is above y
abbrev pub is_straddling : (y : ℤ) → (a b : PositionValue) → Bool
is_straddling y a b = if is_above y a then not (is_above y b) else is_above y b

-- the number of such edges of a ring
abbrev pub straddles : (y : ℤ) → List PositionValue → ℕ
straddles y ring = count_by (λ e. is_straddling y e.0 e.1) (edges ring)

-- exactly one end of the edge is above (x, y), which lies left of the line from the lower end to
-- the upper one
abbrev pub is_crossing : (x y : ℤ) → (a b : PositionValue) → Bool
is_crossing x y a b =
    if is_above y a then not (is_above y b) && int_lt (pos 0) (side b a x y)
    else is_above y b && int_lt (pos 0) (side a b x y)

-- the number of such edges of a ring
abbrev pub crossings : (x y : ℤ) → List PositionValue → ℕ
crossings x y ring = count_by (λ e. is_crossing x y e.0 e.1) (edges ring)

-- their number over all rings together
abbrev pub all_crossings : (x y : ℤ) → List (List PositionValue) → ℕ
all_crossings x y rings = sum_by (crossings x y) rings

-- (x, y) is inside if that number is odd
abbrev pub IsInside : (x y : ℤ) → List (List PositionValue) → Type 0
IsInside x y rings = all_crossings x y rings % 2 ≡ 1

-- the same, as a test
abbrev pub is_inside : (x y : ℤ) → List (List PositionValue) → Bool
is_inside x y rings = all_crossings x y rings % 2 == 1
