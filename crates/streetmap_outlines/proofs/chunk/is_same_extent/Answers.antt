use Rattle.std.proofs.Common.{subst}
use Rattle.streetmap_cells.specs.Cells.{HasExtent}
use Rattle.streetmap_outlines.proofs.chunk.is_same_extent.Goals as goal

pub returns-in-Some-Some : goal.returns-in-Some-Some
returns-in-Some-Some c = λ same cells number. rw (c.in-Some-Some.is-0, c.in-Some-Some.is-1) (λ h. subst (HasExtent cells number) (c.is_same_box.ensures same) h)
