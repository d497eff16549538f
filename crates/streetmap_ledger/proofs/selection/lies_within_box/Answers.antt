use Rattle.std.proofs.Common.{Option, option_map, ap, sym, ◌∙◌}
use Rattle.streetmap_grid.specs.Meeting.{geometry_meets}
use Rattle.streetmap_grid.specs.Views.{box_value}
use Rattle.streetmap_grid.specs.declared.grid_box.GridBox.{GridBox}
use Rattle.streetmap_ledger.specs.Pages.{passes}
use Rattle.streetmap_ledger.proofs.Examining.{within_passes}
use Rattle.streetmap_ledger.proofs.selection.lies_within_box.Goals as goal

pub returns-in-Some-extent : goal.returns-in-Some-extent
returns-in-Some-extent c = λ within geometry is made.
    ap (λ (o : Option GridBox). passes geometry_meets geometry (option_map box_value o)) c.in-Some.is
    ∙ within_passes geometry c.in-Some-extent.extent c.in-Some.area (ap (option_map box_value) (sym c.in-Some-extent.is) ∙ is) made
    (sym c.is_within.ensures.test ∙ within)
