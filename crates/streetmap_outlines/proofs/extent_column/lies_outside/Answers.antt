use Rattle.std.proofs.Common.{◌≡◌, false, not, length, refl, ap, sym, subst, ◌∙◌}
use Rattle.std.proofs.lemmas.Bool.{not-true}
use Rattle.std.proofs.lemmas.Option.{slice_get_read}
use Rattle.streetmap_cells.specs.Envelopes.{overlaps}
use Rattle.streetmap_outlines.specs.Selections.{IsWindowOf}
use Rattle.streetmap_outlines.proofs.Beside.{off_window, overlaps_requested}
use Rattle.streetmap_outlines.proofs.extent_column.lies_outside.Goals as goal

pub returns-in-Some-get-clause-passed_over : goal.returns-in-Some-get-clause-passed_over
returns-in-Some-get-clause-passed_over c = λ test q os o f requested kept there known.
    let es = c.args.extents.now in
    let place = c.args.place in
    let e = c.in-Some-get.extent.now in
    let window = c.in-Some.window in
    let found = c.in-Some-get.ensures.lookup in
    let off : overlaps e window ≡ false = sym c.overlaps.ensures ∙ not-true c.overlaps.result test in
    off_window q window e o f (subst (IsWindowOf q) c.in-Some.is requested) off (kept place e o (slice_get_read es (length es) place e refl found.3.0 found.1)
    there) known

pub returns-in-Some-get-clause-exact : goal.returns-in-Some-get-clause-exact
returns-in-Some-get-clause-exact c = λ within q os o f requested kept there known.
    let es = c.args.extents.now in
    let place = c.args.place in
    let e = c.in-Some-get.extent.now in
    let window = c.in-Some.window in
    let found = c.in-Some-get.ensures.lookup in
    ap not (c.overlaps.ensures ∙ overlaps_requested q window e o f (subst (IsWindowOf q) c.in-Some.is requested)
    (kept place e o (slice_get_read es (length es) place e refl found.3.0 found.1) there) known)
