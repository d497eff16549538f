-- Positions as plain values.
use Rattle.std.specs.Prelude.{List, map}
use Rattle.streetmap_grid.specs.declared.position.Position.{Position}
use Rattle.streetmap_grid.specs.Values.{PositionValue}

-- a position as a plain value
abbrev pub position_value : Position → PositionValue
position_value p = record { x = p.x; y = p.y; z = p.z }

-- a list of positions as plain values
abbrev pub positions_value : List Position → List PositionValue
positions_value ps = map position_value ps
