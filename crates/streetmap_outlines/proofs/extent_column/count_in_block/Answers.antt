use Rattle.std.proofs.Common.{cond, get_or, ap, ◌∙◌, arith}
use Rattle.std.proofs.lemmas.List.Sums.{sum_by_more}
use Rattle.streetmap_cells.specs.Envelopes.{overlaps}
use Rattle.streetmap_cells.specs.declared.envelope.Envelope.{Envelope}
use Rattle.streetmap_outlines.specs.Within.{DecidesMeeting}
use Rattle.streetmap_outlines.proofs.Blocks.{as_byte, one_or_none, all_reported_more, off_or_three}
use Rattle.streetmap_outlines.proofs.extent_column.count_in_block.Goals as goal

pub loop-extent-preserved : goal.loop-extent-preserved
loop-extent-preserved c =
    let inv = c.loop-extent.invariant in
    let window = c.args.window.now in
    let es = c.args.extents.now in
    let i = c.loop-extent.extent-index in
    let none : Envelope = record { x0 = 0; y0 = 0; x1 = 0; y1 = 0 } in
    let more = sum_by_more (λ e. cond (overlaps e window) 1 0) es i none c.loop-extent-test.true in
    let one = c.from-count.ensures ∙ as_byte _ ∙ ap (λ on. cond on 1 0) c.overlaps-overlaps.ensures in
    record {
      counted = omega (arith, inv.counted, more, one);
      few = omega (arith, inv.few, one, one_or_none (overlaps (get_or es i none) window));
      reported = all_reported_more (λ e. DecidesMeeting e window) es i none _ _ c.loop-extent-test.true inv.reported
          (off_or_three _ window _ _ c.overlaps-overlaps.ensures c.has_three_bounds_in.ensures);
    }
