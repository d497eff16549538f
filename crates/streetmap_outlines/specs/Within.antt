-- What an extent shows of a geometry that may meet a box.
use Rattle.std.specs.Prelude.{◌≡◌, ℕ, ◌+◌, ◌≤◌, Bool, true, ◌&&◌, nat_le, [], ◌∷◌}
use Rattle.std.specs.List.{count_by}
use Rattle.streetmap_cells.specs.Envelopes.{overlaps}
use Rattle.streetmap_cells.specs.declared.envelope.Envelope.{Envelope}

-- whether a bound lies between two others, or is one of them
abbrev pub is_between : (low high at : ℕ) → Bool
is_between low high at = nat_le low at && nat_le at high

-- how many of the four bounds of an extent lie between those of a window
abbrev pub bounds_in : Envelope → Envelope → ℕ
bounds_in extent window =
    count_by (is_between window.x0 window.x1) (extent.x0 ∷ extent.x1 ∷ [])
    + count_by (is_between window.y0 window.y1) (extent.y0 ∷ extent.y1 ∷ [])

-- three of them do, or all four
abbrev pub HasThreeBoundsIn : Envelope → Envelope → Type 0
HasThreeBoundsIn extent window = 3 ≤ bounds_in extent window

-- an extent shows whether its geometry meets a window: if it overlaps, it has three bounds in it
abbrev pub DecidesMeeting : Envelope → Envelope → Type 0
DecidesMeeting extent window = overlaps extent window ≡ true → HasThreeBoundsIn extent window
