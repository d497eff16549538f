use Rattle.std.proofs.Common.{cond, List, ◌++◌, sym, ap, ◌∙◌, arith, rules, append_assoc, length-append, refl}
use Rattle.std.proofs.lemmas.List.Elements.{All-append}
use Rattle.std.proofs.lemmas.List.Sums.{sum_by-append, count_by-le-length}
use Rattle.streetmap_cells.specs.Envelopes.{overlaps}
use Rattle.streetmap_cells.specs.declared.envelope.Envelope.{Envelope}
use Rattle.streetmap_outlines.specs.Within.{DecidesMeeting}
use Rattle.streetmap_outlines.proofs.extent_column.count_in_window.Goals as goal

pub loop-block-preserved : goal.loop-block-preserved
loop-block-preserved c =
    let window = c.args.window.now in
    let block = c.in-Some.block.now in
    let steps = c.in-Some.ensures.steps in
    let so_far = c.loop-block.invariant.3 in
    let done = so_far.0 in
    let here = c.in_ok-count_in_block.ensures in
    let both = sum_by-append (λ e. cond (overlaps e window) 1 0) done block in (
      search rules,
      tt,
      steps.0 ∙ c.loop-block.invariant.2,
      (
        done ++ block,
        append_assoc done block _ ∙ ap (λ (es : List Envelope). done ++ es) (sym steps.1.0) ∙ so_far.1,
        omega (arith, both, so_far.2, here.count, c.from.ensures),
        omega (arith, so_far.3, here.count, c.from.ensures, length-append done block, count_by-le-length (λ e. overlaps e window) block),
        All-append (λ e. DecidesMeeting e window) done block so_far.4 (here.reported.0 refl),
      ),
    )
