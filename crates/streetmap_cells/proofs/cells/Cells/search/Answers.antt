use Rattle.streetmap_grid.specs.Views.{box_value}
use Rattle.streetmap_cells.proofs.Envelopes.{envelopes_overlap}
use Rattle.streetmap_cells.proofs.cells.Cells.search.Goals as goal

pub returns : goal.returns
returns c = λ chunk extent h over. c.mark.ensures.marked chunk h.0 h.1.1 (envelopes_overlap h.0 c.of.result extent (box_value c.args.window.now) h.1.0 c.of.ensures over)
