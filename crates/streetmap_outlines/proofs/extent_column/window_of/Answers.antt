use Rattle.std.proofs.Common.{option_map, ap}
use Rattle.streetmap_grid.specs.Views.{box_value}
use Rattle.streetmap_outlines.proofs.extent_column.window_of.Goals as goal

pub returns-in-Some : goal.returns-in-Some
returns-in-Some c = (c.in-Some.area, ap (option_map box_value) c.in-Some.is, c.of.ensures)
