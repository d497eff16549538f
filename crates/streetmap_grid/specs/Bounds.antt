-- The bounds of the positions seen so far.
use Rattle.std.specs.Prelude.{◌≡◌, List, [], Option, Some, None}
use Rattle.streetmap_grid.specs.declared.grid_box.GridBox.{GridBox}
use Rattle.streetmap_grid.specs.Values.{PositionValue}
use Rattle.streetmap_grid.specs.Views.{box_value}
use Rattle.streetmap_grid.specs.Extent.{IsExtent}

-- none if no position was seen, otherwise their extent
abbrev pub AreBounds : List PositionValue → Option GridBox → Type 0
AreBounds ps None = ps ≡ []
AreBounds ps (Some g) = IsExtent ps (box_value g)
