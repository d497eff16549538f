-- The segments of a line and the edges of a ring: the pairs of neighbours.
use Rattle.std.specs.Prelude.{List, [], ◌∷◌}
use Rattle.streetmap_grid.specs.Values.{PositionValue}

-- the edge from a position to the first of a list, and those of that list
abbrev pub edges_from : PositionValue → List PositionValue → List (PositionValue × PositionValue)
edges_from a [] = []
edges_from a (b ∷ bs) = (a, b) ∷ edges_from b bs

-- each position with the one after it
abbrev pub edges : List PositionValue → List (PositionValue × PositionValue)
edges [] = []
edges (a ∷ bs) = edges_from a bs
