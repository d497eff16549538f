use Rattle.std.proofs.Common.{Option, option_map, ap, sym, ◌∙◌}
use Rattle.streetmap_grid.specs.Meeting.{geometry_meets}
use Rattle.streetmap_grid.specs.Views.{box_value}
use Rattle.streetmap_grid.specs.declared.grid_box.GridBox.{GridBox}
use Rattle.streetmap_ledger.specs.Pages.{passes}
use Rattle.streetmap_outlines.proofs.Position.{three_bounds_pass}
use Rattle.streetmap_outlines.proofs.within.decides_meeting.Goals as goal

pub returns-in-Some-extent : goal.returns-in-Some-extent
returns-in-Some-extent c = λ within geometry is made.
    ap (λ (o : Option GridBox). passes geometry_meets geometry (option_map box_value o)) c.in-Some.is
    ∙ three_bounds_pass geometry c.in-Some-extent.extent c.in-Some.area _ _ (ap (option_map box_value) (sym c.in-Some-extent.is) ∙ is) made c.of.ensures
    c.of-in-Some-extent.ensures (c.has_three_bounds_in.ensures.0 within)
