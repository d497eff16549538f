-- Which values are refused, and as what.
use Rattle.std.specs.Prelude.{ℕ, ℤ, Bool, true, ◌&&◌, List, length, Option, Some, None}
use Rattle.std.specs.Prelude.{nat_lt, int_le, if◌then◌else◌}
use Rattle.streetmap_grid.specs.declared.fault.GridFault.{GridFault}
use Rattle.streetmap_grid.specs.declared.fault.GridFault.TheVariants.{OutOfGrid, ShortLine}
use Rattle.streetmap_grid.specs.declared.fault.GridFault.TheVariants.{ShortRing, OpenRing, BadBox}
use Rattle.streetmap_grid.specs.Values.{PositionValue, BoxValue}
use Rattle.streetmap_grid.specs.Range.{is_coordinate, is_bound}
use Rattle.streetmap_grid.specs.Ring.{is_closed}

-- the height, if given, is a coordinate
abbrev pub is_height : Option ℤ → Bool
is_height None = true
is_height (Some z) = is_coordinate z

-- a position is refused if one of its coordinates is not one of the grid's
abbrev pub position_fault : PositionValue → Option GridFault
position_fault p = if is_coordinate p.x && (is_coordinate p.y && is_height p.z) then None
    else Some OutOfGrid

-- a line is refused below two positions
abbrev pub line_fault : List PositionValue → Option GridFault
line_fault ps = if nat_lt (length ps) 2 then Some ShortLine else None

-- a ring is refused below four positions, and then if it is not closed
abbrev pub ring_fault : List PositionValue → Option GridFault
ring_fault ps = if nat_lt (length ps) 4 then Some ShortRing
    else (if is_closed ps then None else Some OpenRing)

-- the bounds are in range, and in order
abbrev pub is_box : BoxValue → Bool
is_box g = is_bound g.x0 && (is_bound g.y0
    && (is_bound g.x1 && (is_bound g.y1 && (int_le g.x0 g.x1 && int_le g.y0 g.y1))))

-- a box is refused if a bound is out of range, or its bounds are out of order
abbrev pub box_fault : BoxValue → Option GridFault
box_fault g = if is_box g then None else Some BadBox
