use Rattle.std.proofs.Common.{◌<◌, ◌∙◌, length, refl, arith}
use Rattle.std.proofs.lemmas.List.Elements.{All-push, All-same}
use Rattle.streetmap_outlines.proofs.InChunks.{dropped_some}
use Rattle.streetmap_outlines.proofs.CutUp.{HasOutlines, run_cut_off}
use Rattle.streetmap_outlines.proofs.chunks.cut_up.Goals as goal

pub loop-outlines-preserved : goal.loop-outlines-preserved
loop-outlines-preserved c =
    let inv = c.loop-outlines.invariant in
    let was = c.loop-outlines.outlines.items in
    let runs = c.loop-outlines.runs.items in
    let last = c.in_ok-last.last in
    let pushes = c.in_ok-push.ensures.items in
    let tail = c.in_ok-last.ensures.tail in
    let some : 0 < length last.items = dropped_some was last.items _ tail (omega arith) in
    record {
      same = run_cut_off was c.split_off.new.self.items last.items _ runs c.push.new.self.items last c.in_ok-last.ensures.items tail refl pushes ∙ inv.same;
      filled = All-same HasOutlines _ _ pushes (All-push HasOutlines runs last inv.filled some);
    }
